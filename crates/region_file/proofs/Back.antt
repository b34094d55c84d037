-- Bytes read back as the number they were written for, and numbers written back as the bytes they were read from.
use Prim.Native.Nat.{ℕ, zero, suc, ◌+◌, ◌*◌, ◌^◌, ◌/◌, ◌%◌, ◌≤◌, ◌<◌}
use native.Mathlib.Omega.{arith}
use native.Mathlib.Nat.{mul_comm, pow-suc}
use mathlib.Core.Path.{◌≡◌, refl, sym, ap, subst, ◌∙◌}
use mathlib.Core.Bool.{true, not, false≢true}
use mathlib.Core.List.{List, [], ◌∷◌}
use borrow.Author.Tests.{ltb-true}
use lib.Dec.{T, ltb}
use lib.Ieee.{Float, nan, inf, fin, binary64, top, fits, is_nan, of_bits, to_bits}
use lib.Ieee.Bits.{of_bits-to_bits, to_bits-lt, to_bits-of_bits}
use lib.ListN.{length, take, drop, length-drop}
use lib.Pow.{are_bytes}
use lib.Seq.{length-take-le}
use Rattle.float.specs.Doubles.{is_finite}
use Rattle.region_file.specs.Bytes.{number_in, bytes_of, number_at, double_at, double_bytes}
use Rattle.lists.proofs.All.{both}

-- ---- a number of `w` bytes

pub number_bytes : (w n : ℕ) → n < 256 ^ w → number_in (bytes_of w n) ≡ n
unfolding number_in bytes_of
number_bytes zero n h = omega (arith, h)
number_bytes (suc w) n h =
    let p : 256 ^ suc w ≡ 256 * 256 ^ w = pow-suc 256 w ∙ mul_comm (256 ^ w) 256 in
    let small : n / 256 < 256 ^ w = omega (arith, h, p) in
    let rest : number_in (bytes_of w (n / 256)) ≡ n / 256 = number_bytes w (n / 256) small in
    omega (arith, rest)

-- ---- bytes

pub bytes_number : (bs : List ℕ) → are_bytes bs ≡ true → bytes_of (length bs) (number_in bs) ≡ bs
unfolding number_in bytes_of
bytes_number [] h = refl
bytes_number (b ∷ bs) h =
    let t = both (ltb b 256) (are_bytes bs) h in
    let small : b < 256 = ltb-true b 256 t.0 in
    let low : (b + 256 * number_in bs) % 256 ≡ b = omega (arith, small) in
    let high : (b + 256 * number_in bs) / 256 ≡ number_in bs = omega (arith, small) in
    rw (low, high, bytes_number bs t.1)

pub number_lt : (bs : List ℕ) → are_bytes bs ≡ true → number_in bs < 256 ^ length bs
unfolding number_in
number_lt [] h = omega arith
number_lt (b ∷ bs) h =
    let t = both (ltb b 256) (are_bytes bs) h in
    let small : b < 256 = ltb-true b 256 t.0 in
    let p : 256 ^ suc (length bs) ≡ 256 * 256 ^ length bs = pow-suc 256 (length bs) ∙ mul_comm (256 ^ length bs) 256 in
    omega (arith, small, p, number_lt bs t.1)

bytes_drop : (n : ℕ) (s : List ℕ) → are_bytes s ≡ true → are_bytes (drop n s) ≡ true
bytes_drop zero s h = h
bytes_drop (suc n) [] h = h
bytes_drop (suc n) (b ∷ s) h = bytes_drop n s (both (ltb b 256) (are_bytes s) h).1

bytes_take : (n : ℕ) (s : List ℕ) → are_bytes s ≡ true → are_bytes (take n s) ≡ true
bytes_take zero s h = refl
bytes_take (suc n) [] h = h
bytes_take (suc n) (b ∷ s) h = let t = both (ltb b 256) (are_bytes s) h in rw (t.0, bytes_take n s t.1)

module _ (s : List ℕ) (at : ℕ) (bytes : are_bytes s ≡ true) where
  length_part : (w : ℕ) → at + w ≤ length s → length (take w (drop at s)) ≡ w
  length_part w h = length-take-le w (drop at s) (omega (arith, h, length-drop at s))

  part_bytes : (w : ℕ) → are_bytes (take w (drop at s)) ≡ true
  part_bytes w = bytes_take w (drop at s) (bytes_drop at s bytes)

  pub bytes_at : (w : ℕ) → at + w ≤ length s → bytes_of w (number_at w s at) ≡ take w (drop at s)
  unfolding number_at
  bytes_at w h =
      ap (λ (k : ℕ). bytes_of k (number_in (take w (drop at s)))) (sym (length_part w h)) ∙ bytes_number (take w (drop at s)) (part_bytes w)

  pub number_at_lt : (w : ℕ) → at + w ≤ length s → number_at w s at < 256 ^ w
  unfolding number_at
  number_at_lt w h = subst (λ (k : ℕ). number_in (take w (drop at s)) < 256 ^ k) (length_part w h) (number_lt (take w (drop at s)) (part_bytes w))

-- ---- doubles

patterns : 2 * top binary64 ≡ 256 ^ 8
patterns = refl

pub double_written : (x : Float) → fits binary64 x ≡ true → of_bits binary64 (number_in (double_bytes x)) ≡ x
double_written x h =
    let t : T (fits binary64 x) = subst T (sym h) tt in
    ap (of_bits binary64) (number_bytes 8 (to_bits binary64 x) (subst (λ (k : ℕ). to_bits binary64 x < k) patterns (to_bits-lt binary64 x t))) ∙ of_bits-to_bits binary64 x t

finite_number : (x : Float) → is_finite x ≡ true → T (not (is_nan x))
unfolding is_nan
finite_number nan f = absurd (false≢true f)
finite_number (inf s) f = tt
finite_number (fin s m e) f = tt

pub double_read : (s : List ℕ) (at : ℕ) → are_bytes s ≡ true → at + 8 ≤ length s → is_finite (double_at s at) ≡ true → double_bytes (double_at s at) ≡ take 8 (drop at s)
double_read s at bytes h f =
    let small : number_at 8 s at < 2 * top binary64 = subst (λ (k : ℕ). number_at 8 s at < k) (sym patterns) (number_at_lt s at bytes 8 h) in
    ap (bytes_of 8) (to_bits-of_bits binary64 (number_at 8 s at) small (finite_number (double_at s at) f)) ∙ bytes_at s at bytes 8 h
