-- What the tests of `checked` show: where an odd number's square leaves little of 4 A, half of the number, rounded up, is the nearest root. Assumes nothing.
use Rattle.std.proofs.Common.{◌≡◌, ℕ, ◌+◌, ◌-◌, ◌*◌, ◌/◌, ◌%◌, ◌^◌, ◌<◌, ◌≤◌, Bool, true, false, not, T, leb, ◌∙◌, le_of_lt, mul-le-mul, mul_right_comm, arith, leb→le}
use native.Mathlib.Nat.{mul-mul-mul_comm}
use lib.Dec.{nleb→lt}
use Rattle.root.specs.Whole.{IsRoot, near_root}
use Rattle.root.proofs.Grow.{next_square, sum_square}
use Rattle.root.proofs.Laws.{nearest_is}

-- the whole root of 4 A is s or s + 1, and either rounds to R
rounds : {A R : ℕ} (s r : ℕ) → A < 2 ^ 106 → s * s + r ≡ 4 * A → s + 1 ≡ 2 * R → r < 8 * R → R ≡ near_root A
rounds {A} {R} s r l e o h = go (leb r (2 * s)) (leb→le r (2 * s)) (nleb→lt r (2 * s))
  where
    go : (b : Bool) → (T b → r ≤ 2 * s) → (T (not b) → 2 * s < r) → R ≡ near_root A
    go true p q =
        let w : IsRoot (4 * A) s r = record { square = e; small = p tt } in
        let u : R ≡ (s + 1) / 2 = omega arith in
        u ∙ nearest_is l w
    go false p q =
        let k = q tt in
        let w : IsRoot (4 * A) (s + 1) (r - (2 * s + 1)) = record { square = omega (arith, next_square s); small = omega arith } in
        let u : R ≡ (s + 1 + 1) / 2 = omega arith in
        u ∙ nearest_is l w

-- x less k, around 2 ^ 64
abbrev pub less : ℕ → ℕ → ℕ
less x k = (x + (2 ^ 64 - k)) % 2 ^ 64

-- a is the first part of the root, c the second, and p, q and k are what is taken away
pub record Tested (n a c p q k : ℕ) : Type 0 where
  pub long : 2 ^ 52 ≤ n
  pub short : n < 2 ^ 54
  pub first : a < 2 ^ 32
  pub second : c < 2 ^ 25
  pub squared : p ≡ a * a
  pub mixed : q ≡ a * (c * 2 + 1)
  pub left : k ≡ (c * 2 + 1) * (c * 2 + 1)
  pub few : less (n * 256) p < 2 ^ 34
  pub fewer : less (less (n * 256) p * 2 ^ 22) q < 2 ^ 34

module _ {n a c p q k : ℕ} (h : Tested n a c p q k) where
  abbrev t : ℕ
  t = less (n * 256) p

  abbrev v : ℕ
  v = less (t * 2 ^ 22) q

  abbrev r : ℕ
  r = less (v * 2 ^ 24) k

  abbrev d : ℕ
  d = c * 2 + 1

  narrow : d ≤ 2 ^ 26
  narrow = omega (arith, h.second)

  -- the multiple is 0
  one : t + a * a ≡ n * 256
  one = omega (arith, h.squared, h.short, h.few, h.long, mul-le-mul top top)
    where
      top : a ≤ 2 ^ 32 - 1
      top = omega (arith, h.first)

  two : v + a * d ≡ t * 2 ^ 22
  two = omega (arith, h.mixed, h.few, h.fewer, mul-le-mul (le_of_lt h.first) narrow)

  three : r < 2 ^ 60 → r + d * d ≡ v * 2 ^ 24
  three l = omega (arith, h.left, h.fewer, mul-le-mul narrow narrow)

  whole : r < 2 ^ 60 → (a * 2 ^ 23 + d) * (a * 2 ^ 23 + d) + r ≡ 4 * (n * 2 ^ 52)
  whole l = omega (arith, sum_square (a * 2 ^ 23) d, mul-mul-mul_comm a (2 ^ 23) a (2 ^ 23), mul_right_comm a (2 ^ 23) d, one, two, three l)

  pub at_once : r < (a * 2 ^ 22 + c + 1) * 8 → a * 2 ^ 22 + c + 1 ≡ near_root (n * 2 ^ 52)
  at_once l = rounds (a * 2 ^ 23 + d) r (omega (arith, h.short)) (whole (omega (arith, h.first, h.second))) (omega arith) (omega arith)

  -- the next odd number
  pub one_more : (a * 2 ^ 22 + c + 1) * 8 ≤ r → r < (a * 2 ^ 22 + c + 1) * 16 + 8 → a * 2 ^ 22 + c + 1 + 1 ≡ near_root (n * 2 ^ 52)
  one_more g l =
      let o : ℕ = a * 2 ^ 23 + d in
      rounds (o + 1 + 1) (r - (4 * o + 4)) (omega (arith, h.short)) (omega (arith, whole (omega (arith, h.first, h.second)), next_square o, next_square (o + 1))) (omega arith) (omega arith)
