-- Laws of numbers in bytes, over any width.
use Prim.Native.Nat.{ℕ, zero, suc, ◌+◌, ◌*◌, ◌^◌, ◌/◌, ◌%◌, ◌-◌, ◌≤◌, ◌<◌}
use native.Mathlib.Omega.{arith}
use native.Mathlib.Nat.{mul_assoc, mul_comm, pow-suc, div-one, div-div-eq-div-mul}
use mathlib.Core.Path.{◌≡◌, refl, sym, ap, ◌∙◌}
use mathlib.Core.List.{List, [], ◌∷◌, ◌++◌, append_assoc}
use lib.ListN.{length, take, drop, get_or, set, length-drop}
use lib.Seq.{sets, sets-eq, drop-cons, drop-drop, take-add, take_all, take-suc, length-take-le}
use borrow.Rule.Slice.PartMut.{put_mid}
use Rattle.std.specs.Int.{w32, w64, byte_at, byte_worth, bytes_low_first, sum_through, from_le_bytes}
use Rattle.region_file.specs.Bytes.{number_in, bytes_of, number_at}

-- ---- stores, one run after the other

pub sets_then : {A : Type 0} (xs ys : List A) (l : List A) (i j : ℕ) → i + length xs ≡ j → sets (sets l i xs) j ys ≡ sets l i (xs ++ ys)
sets_then [] ys l i j e = let d : j ≡ i = omega (arith, e) in rw d
sets_then (x ∷ xs) ys l i j e = sets_then xs ys (set l i x) (suc i) j (omega (arith, e))

-- ---- widths

pub length_bytes : (w n : ℕ) → length (bytes_of w n) ≡ w
unfolding bytes_of
length_bytes zero n = refl
length_bytes (suc w) n = ap suc (length_bytes w (n / 256))

-- of the lowest bytes the first
pub take_bytes : (w k n : ℕ) → w ≤ k → take w (bytes_of k n) ≡ bytes_of w n
unfolding bytes_of
take_bytes zero k n h = refl
take_bytes (suc w) zero n h = absurd (omega (arith, h))
take_bytes (suc w) (suc k) n h = ap (λ (bs : List ℕ). n % 256 ∷ bs) (take_bytes w k (n / 256) (omega (arith, h)))

-- a number stored, and what is stored after it
pub run : (w n : ℕ) (rest l m : List ℕ) (i j : ℕ) → i + w ≡ j → m ≡ sets l i (bytes_of w n) → sets m j rest ≡ sets l i (bytes_of w n ++ rest)
run w n rest l m i j e h = rw h (sets_then (bytes_of w n) rest l i j (omega (arith, e, length_bytes w n)))

pub number_append : (xs ys : List ℕ) → number_in (xs ++ ys) ≡ number_in xs + 256 ^ length xs * number_in ys
unfolding number_in
number_append [] ys = omega arith
number_append (x ∷ xs) ys =
    let step : 256 ^ suc (length xs) * number_in ys ≡ 256 * (256 ^ length xs * number_in ys) =
    ap (λ (k : ℕ). k * number_in ys) (pow-suc 256 (length xs) ∙ mul_comm (256 ^ length xs) 256) ∙ mul_assoc 256 (256 ^ length xs) (number_in ys)
    in
    omega (arith, number_append xs ys, step)

-- ---- what four and eight bytes hold, byte by byte

module _ (s : List ℕ) (at : ℕ) where
  pub at_four : at + 4 ≤ length s → number_at 4 s at ≡ get_or s at 0 + 256 * get_or s (at + 1) 0 + 65536 * get_or s (at + 2) 0 + 16777216 * get_or s (at + 3) 0
  unfolding number_at number_in
  at_four h =
      let a : at < length s = omega (arith, h) in
      let b : suc at < length s = omega (arith, h) in
      let c : suc (suc at) < length s = omega (arith, h) in
      let d : suc (suc (suc at)) < length s = omega (arith, h) in
      let b' : at + 1 ≡ suc at = omega arith in
      let c' : at + 2 ≡ suc (suc at) = omega arith in
      let d' : at + 3 ≡ suc (suc (suc at)) = omega arith in
      rw (drop-cons s at 0 a, drop-cons s (suc at) 0 b, drop-cons s (suc (suc at)) 0 c, drop-cons s (suc (suc (suc at))) 0 d, b', c', d')
      (four _ _ _ _)
    where
      four : (a b c d : ℕ) → a + 256 * (b + 256 * (c + 256 * (d + 0))) ≡ a + 256 * b + 65536 * c + 16777216 * d
      four a b c d = omega arith

  pub at_eight : at + 8 ≤ length s → number_at 8 s at ≡ number_at 4 s at + 4294967296 * number_at 4 s (at + 4)
  unfolding number_at
  at_eight h =
      let l : 4 ≤ length (drop at s) = omega (arith, h, length-drop at s) in
      ap number_in (take-add 4 4 (drop at s)) ∙ number_append (take 4 (drop at s)) (take 4 (drop 4 (drop at s))) ∙ rw (length-take-le 4 (drop at s) l, drop-drop 4 at s)

-- ---- the library's words

-- what `from_le_bytes` answers is the number that the bytes hold
number_below : (bs : List ℕ) (k : ℕ) → k < length bs → sum_through (λ i. byte_worth i (get_or bs i 0)) k ≡ number_in (take (suc k) bs)
unfolding number_in
number_below [] k h = absurd (omega (arith, h))
number_below (b ∷ bs) zero h = omega arith
number_below bs (suc k) h =
    let e : take (suc (suc k)) bs ≡ take (suc k) bs ++ (get_or bs (suc k) 0 ∷ []) = take-suc bs (suc k) 0 h in
    let few : suc k ≤ length bs = omega (arith, h) in
    let l : length (take (suc k) bs) ≡ suc k = length-take-le (suc k) bs few in
    let one : number_in (get_or bs (suc k) 0 ∷ []) ≡ get_or bs (suc k) 0 = omega arith in
    ap (λ (n : ℕ). n + get_or bs (suc k) 0 * 256 ^ suc k) (number_below bs k (omega (arith, h)))
    ∙ ap (λ (n : ℕ). number_in (take (suc k) bs) + n) (mul_comm (get_or bs (suc k) 0) (256 ^ suc k))
    ∙ sym (ap number_in e ∙ number_append (take (suc k) bs) (get_or bs (suc k) 0 ∷ []) ∙ rw (l, one))

module _ (s bs : List ℕ) (at : ℕ) where
  part : (w : ℕ) → at + suc w ≤ length s → bs ≡ take (suc w) (drop at s) → sum_through (λ i. byte_worth i (get_or bs i 0)) w ≡ number_at (suc w) s at
  unfolding number_at
  part w h e =
      let l : length bs ≡ suc w = ap length e ∙ length-take-le (suc w) (drop at s) (omega (arith, h, length-drop at s)) in
      number_below bs w (omega (arith, l)) ∙ ap number_in (take_all (suc w) bs (omega (arith, l)) ∙ e)

  pub read_4 : at + 4 ≤ length s → bs ≡ take 4 (drop at s) → from_le_bytes w32 bs ≡ number_at 4 s at
  read_4 = part 3

  pub read_8 : at + 8 ≤ length s → bs ≡ take 8 (drop at s) → from_le_bytes w64 bs ≡ number_at 8 s at
  read_8 = part 7

-- what `to_le_bytes` answers is the number's lowest bytes
low_bytes : (i k n : ℕ) → bytes_low_first i k n ≡ bytes_of k (n / 256 ^ i)
unfolding bytes_of
low_bytes i zero n = refl
low_bytes i (suc k) n =
    let e : byte_at i n ≡ n / 256 ^ i % 256 = first i in
    let f : n / 256 ^ suc i ≡ n / 256 ^ i / 256 = ap (λ (m : ℕ). n / m) (pow-suc 256 i) ∙ sym (div-div-eq-div-mul n (256 ^ i) 256) in
    rw e (ap (λ (bs : List ℕ). n / 256 ^ i % 256 ∷ bs) (low_bytes (suc i) k n ∙ ap (bytes_of k) f))
  where
    first : (j : ℕ) → byte_at j n ≡ n / 256 ^ j % 256
    first zero = ap (λ (m : ℕ). m % 256) (sym (div-one n))
    first (suc j) = refl

pub written_bytes : (w n : ℕ) → bytes_low_first 0 w n ≡ bytes_of w n
written_bytes w n = low_bytes 0 w n ∙ ap (bytes_of w) (div-one n)

-- a part of a list, overwritten
pub part_set : (s bs ys : List ℕ) (at w : ℕ) → at + w ≤ length s → length bs ≡ w → ys ≡ bs → put_mid at (at + w - at) s ys ≡ sets s at bs
part_set s bs ys at w h l e =
    let k : at + w - at ≡ length bs = omega (arith, l) in
    rw (e, k, drop-drop (length bs) at s) (sym (sets-eq bs s at (omega (arith, h, l)) ∙ append_assoc (take at s) bs (drop (at + length bs) s)))
