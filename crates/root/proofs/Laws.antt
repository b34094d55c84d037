-- What `root_in` and `near_root` are: the whole root and the nearest whole root. Assumes nothing.
use Rattle.std.proofs.Common.{◌≡◌, ℕ, zero, suc, ◌+◌, ◌-◌, ◌*◌, ◌/◌, ◌%◌, ◌^◌, ◌<◌, ◌≤◌, Bool, true, false, cond, not, T, leb, ◌⊎◌, sym, refl, ap, ◌∙◌, subst, inl, inr, le_of_suc-le-suc, mul-le-mul, lt_of_not-le, arith, leb→le}
use native.Mathlib.Nat.{pow-succ'}
use lib.Dec.{nleb→lt}
use Rattle.root.specs.Whole.{IsRoot, lift, root_in, near_root, next_digit, EveryWidth}
use Rattle.root.proofs.Grow.{grows, same_root, next_square, double_square, squares_mono, one_root}

-- one step of `root_in` is the growth by a digit
grown : (n s r : ℕ) → IsRoot (n / 4) s r → lift (2 * s) n ≡ 2 * s + next_digit s (4 * r + n % 4)
grown n s r h = go (leb ((2 * s + 1) * (2 * s + 1)) n) (leb (4 * s + 1) (4 * r + n % 4))
    (leb→le ((2 * s + 1) * (2 * s + 1)) n) (nleb→lt ((2 * s + 1) * (2 * s + 1)) n) (leb→le (4 * s + 1) (4 * r + n % 4)) (nleb→lt (4 * s + 1) (4 * r + n % 4))
  where
    go : (b c : Bool) → (T b → (2 * s + 1) * (2 * s + 1) ≤ n) → (T (not b) → n < (2 * s + 1) * (2 * s + 1)) → (T c → 4 * s + 1 ≤ 4 * r + n % 4) → (T (not c) → 4 * r + n % 4 < 4 * s + 1)
        → cond b (2 * s + 1) (2 * s) ≡ 2 * s + cond c 1 0
    go true true p q p' q' = refl
    go true false p q p' q' = omega (arith, p tt, q' tt, next_square (2 * s), double_square s, h.square)
    go false true p q p' q' = omega (arith, q tt, p' tt, next_square (2 * s), double_square s, h.square)
    go false false p q p' q' = omega arith

-- the remainder of a root is what its square leaves
left_of : {n s r : ℕ} → IsRoot n s r → IsRoot n s (n - s * s)
left_of h = same_root refl (omega (arith, h.square)) h

step : (n s r : ℕ) → IsRoot (n / 4) s r → IsRoot n (lift (2 * s) n) (n - lift (2 * s) n * lift (2 * s) n)
step n s r h = left_of (same_root (grown n s r h) refl (subst (λ (x : ℕ). IsRoot x (2 * s + next) (4 * r + n % 4 - (4 * s + 1) * next)) whole (grows (n / 4) s r (n % 4) (omega arith) h)))
  where
    next : ℕ
    next = next_digit s (4 * r + n % 4)

    whole : 4 * (n / 4) + n % 4 ≡ n
    whole = omega arith

pub every_width : EveryWidth
unfolding root_in
every_width zero n h = record { square = omega arith; small = omega arith }
every_width (suc w) n h = step n (root_in w (n / 4)) _ (every_width w (n / 4) (omega (arith, pow-succ' 4 w)))

lift_le : (s n : ℕ) → lift s n ≤ s + 1
lift_le s n = go (leb ((s + 1) * (s + 1)) n)
  where
    go : (b : Bool) → cond b (s + 1) s ≤ s + 1
    go true = omega arith
    go false = omega arith

pub root_in_lt : (d n : ℕ) → root_in d n < 2 ^ d
unfolding root_in
root_in_lt zero n = omega arith
root_in_lt (suc d) n = omega (arith, lift_le (2 * root_in d (n / 4)) n, root_in_lt d (n / 4), pow-succ' 2 d)

-- ---- the nearest whole root

pub near_is : (A : ℕ) → near_root A ≡ (root_in 54 (4 * A) + 1) / 2
unfolding near_root
near_is A = refl

pub near_le : (A : ℕ) → near_root A ≤ 2 ^ 53
near_le A = omega (arith, near_is A, root_in_lt 54 (4 * A))

below_four : (A : ℕ) → A < 2 ^ 106 → 4 * A < 4 ^ 54
below_four A h = omega arith

-- q is the whole root of 4 A, and R is half of q + 1
module _ {A q r : ℕ} (h : IsRoot (4 * A) q r) (p : 0 < A) where
  some : 0 < q
  some = lt_of_not-le (λ (g : q ≤ 0). none g (mul-le-mul g g))
    where
      none : q ≤ 0 → q * q ≤ 0 → ⊥
      none a b = omega (arith, h.square, h.small)

  -- (2 R - 1) ^ 2 < 4 A < (2 R + 1) ^ 2, with q even or odd
  even_case : (R : ℕ) → q ≡ 2 * R → ((2 * R - 1) * (2 * R - 1) < 4 * A) × (4 * A < (2 * R + 1) * (2 * R + 1))
  even_case R e =
      (subst (λ (x : ℕ). (x - 1) * (x - 1) < 4 * A) e lower, subst (λ (x : ℕ). 4 * A < (x + 1) * (x + 1)) e (omega (arith, h.square, h.small, next_square q)))
    where
      back : q - 1 + 1 ≡ q
      back = omega (arith, some)

      lower : (q - 1) * (q - 1) < 4 * A
      lower = omega (arith, h.square, next_square (q - 1), ap (λ (x : ℕ). x * x) back)

  odd_case : (R : ℕ) → q + 1 ≡ 2 * R → ((2 * R - 1) * (2 * R - 1) < 4 * A) × (4 * A < (2 * R + 1) * (2 * R + 1))
  odd_case R e = (
    subst (λ (x : ℕ). (x - 1) * (x - 1) < 4 * A) e (subst (λ (x : ℕ). x * x < 4 * A) (back q) lower),
    subst (λ (x : ℕ). 4 * A < (x + 1) * (x + 1)) e (omega (arith, h.square, h.small, next_square q, next_square (q + 1))),
  )
    where
      back : (x : ℕ) → x ≡ x + 1 - 1
      back x = omega arith

      halves : 2 * (q / 2) + 1 ≡ q
      halves = omega (arith, e)

      lower : q * q < 4 * A
      lower = omega (arith, h.square, next_square (2 * (q / 2)), double_square (q / 2), ap (λ (x : ℕ). x * x) halves)

parity : (q : ℕ) → (q ≡ 2 * ((q + 1) / 2)) ⊎ (q + 1 ≡ 2 * ((q + 1) / 2))
parity q = go (q % 2) refl
  where
    go : (x : ℕ) → q % 2 ≡ x → (q ≡ 2 * ((q + 1) / 2)) ⊎ (q + 1 ≡ 2 * ((q + 1) / 2))
    go zero e = inl (omega arith)
    go (suc x) e = inr (omega arith)

-- the two inequalities
pub near_root_lem : (A : ℕ) → 0 < A → A < 2 ^ 106 → ((2 * near_root A - 1) * (2 * near_root A - 1) < 4 * A) × (4 * A < (2 * near_root A + 1) * (2 * near_root A + 1))
near_root_lem A p l =
    let k = every_width 54 (4 * A) (below_four A l) in
    subst (λ (R : ℕ). ((2 * R - 1) * (2 * R - 1) < 4 * A) × (4 * A < (2 * R + 1) * (2 * R + 1))) (sym (near_is A))
    (elim (parity (root_in 54 (4 * A))) [ inl e ↦ even_case k p ((root_in 54 (4 * A) + 1) / 2) e | inr e ↦ odd_case k p ((root_in 54 (4 * A) + 1) / 2) e ])

-- how large it is
reaches : {A q r : ℕ} → IsRoot (4 * A) q r → 2 ^ 104 ≤ A → 2 ^ 53 ≤ q
reaches {A} {q} {r} h l =
    let w : 2 ^ 53 < q + 1 = lt_of_not-le (λ (g : q + 1 ≤ 2 ^ 53). no g (squares_mono g)) in
    omega arith
  where
    no : q + 1 ≤ 2 ^ 53 → (q + 1) * (q + 1) ≤ 2 ^ 106 → ⊥
    no a b = omega (arith, h.square, h.small, next_square q)

stops : {A q r : ℕ} → IsRoot (4 * A) q r → A ≤ 2 ^ 106 - 2 ^ 53 → q ≤ 2 ^ 54 - 2
stops {A} {q} {r} h l = le_of_suc-le-suc (lt_of_not-le (λ (g : 2 ^ 54 - 1 ≤ q). no (squares_mono g)))
  where
    no : (2 ^ 54 - 1) * (2 ^ 54 - 1) ≤ q * q → ⊥
    no b = omega (arith, h.square)

pub near_range : (A : ℕ) → 2 ^ 104 ≤ A → A ≤ 2 ^ 106 - 2 ^ 53 → (2 ^ 52 ≤ near_root A) × (near_root A < 2 ^ 53)
near_range A g l =
    let k = every_width 54 (4 * A) (below_four A (omega arith)) in
    let a = reaches k g in
    let b = stops k l in
    let e = near_is A in
    (omega (arith, a, b, e), omega (arith, a, b, e))

-- what a whole root of 4 A rounds to
pub nearest_is : {A q r : ℕ} → A < 2 ^ 106 → IsRoot (4 * A) q r → (q + 1) / 2 ≡ near_root A
nearest_is {A} {q} {r} l h = ap (λ (x : ℕ). (x + 1) / 2) (one_root h (every_width 54 (4 * A) (below_four A l))) ∙ sym (near_is A)
