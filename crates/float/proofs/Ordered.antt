-- Finite values stand in one order: of two, one is below the other or at least it, and what is below the lower is below the higher.
use Prim.Native.Nat.{ℕ, ◌+◌, ◌*◌, ◌≤◌, ◌<◌}
use native.Mathlib.Nat.{le_of_eq, add_comm, add-zero, zero-add, zero-mul, mul-lt-mul_of_pos_right, mul-le-mul_right, lt_of_mul-lt-mul_right}
use native.Mathlib.Omega.{arith}
use mathlib.Core.Path.{◌≡◌, refl, sym, ap, ◌∙◌, subst}
use mathlib.Core.Bool.{Bool, true, false, not, ◌&&◌, ◌||◌, cond, or-true, false≢true}
use borrow.Author.Tests.{ltb-true, ltb-false, lt-ltb, le-ltb, eqb-true, eqb-false, eq-eqb}
use lib.Dec.{T, ltb, eqb}
use lib.Ieee.{Float, nan, inf, fin, up, down, below, level, lt, le, eq}
use lib.Ieee.Bits.{is_true, is_false}
use lib.Ieee.Fits.{down_pos, and_l}
use Rattle.float.specs.Doubles.{is_finite}

-- ---- by sizes with a sign

not_above : (a b : ℕ) (same : Bool) → (same ≡ true → a ≡ b) → (same ≡ false → a ≡ b → ⊥) → ltb a b || (same && true) ≡ not (ltb b a)
not_above a b same f g = go (ltb b a) same refl refl
  where
    go : (x y : Bool) → ltb b a ≡ x → same ≡ y → ltb a b || (y && true) ≡ not x
    go true true p q = let l = ltb-true b a p in let e = f q in absurd (omega (arith, l, e))
    go true false p q = let l = ltb-true b a p in rw (le-ltb a b (omega (arith, l))) refl
    go false true p q = let e = f q in rw (le-ltb a b (omega (arith, e))) refl
    go false false p q = let l = ltb-false b a p in let n = g q in rw (lt-ltb a b (less l n)) refl
      where
        less : a ≤ b → (a ≡ b → ⊥) → a < b
        less l n = omega (arith, l, n)

both_none : (a b : ℕ) → eqb a b && eqb a 0 ≡ not (ltb 0 (a + b))
both_none a b = go (ltb 0 (a + b)) refl
  where
    some : 0 < a + b → (x y : Bool) → (x ≡ true → a ≡ b) → (y ≡ true → a ≡ 0) → x && y ≡ false
    some l true true f g = let e = f refl in let z = g refl in absurd (omega (arith, l, e, z))
    some l true false f g = refl
    some l false y f g = refl

    go : (x : Bool) → ltb 0 (a + b) ≡ x → eqb a b && eqb a 0 ≡ not x
    go true p = some (ltb-true 0 (a + b) p) (eqb a b) (eqb a 0) (eqb-true a b) (eqb-true a 0)
    go false p = let l = ltb-false 0 (a + b) p in rw (eq-eqb a b (omega (arith, l)), eq-eqb a 0 (omega (arith, l))) refl

at_least_by : (s t : Bool) (a b : ℕ) → below s a t b || level s a t b ≡ not (below t b s a)
at_least_by false false a b = not_above a b (eqb a b) (eqb-true a b) (eqb-false a b)
at_least_by false true a b = both_none a b ∙ ap (λ (n : ℕ). not (ltb 0 n)) (add_comm a b)
at_least_by true false a b = rw (both_none a b) (go (ltb 0 (a + b)))
  where
    go : (x : Bool) → x || not x ≡ true
    go true = refl
    go false = refl
at_least_by true true a b = not_above b a (eqb a b) (λ (e : eqb a b ≡ true). sym (eqb-true a b e)) (λ (e : eqb a b ≡ false). λ (q : b ≡ a). eqb-false a b e (sym q))

-- a size with a sign is the difference of two, of which one is 0
abbrev over : Bool → ℕ → ℕ
over s a = cond s 0 a

abbrev under : Bool → ℕ → ℕ
under s a = cond s a 0

below_is : (s t : Bool) (a b : ℕ) → below s a t b ≡ ltb (over s a + under t b) (over t b + under s a)
below_is false false a b = rw (add-zero a, add-zero b) refl
below_is false true a b = sym (le-ltb (a + b) (0 + 0) (omega arith))
below_is true false a b = rw (add_comm a b) refl
below_is true true a b = rw (zero-add a, zero-add b) refl

-- ---- of floats

scaled : (s t : Bool) (m n a b : ℕ) → below s (m * b) t (n * a) ≡ ltb (over s m * b + under t n * a) (over t n * a + under s m * b)
scaled s t m n a b = below_is s t (m * b) (n * a) ∙ rw (over_times s m b, over_times t n a, under_times s m b, under_times t n a) refl
  where
    over_times : (s : Bool) (m k : ℕ) → over s (m * k) ≡ over s m * k
    over_times true m k = sym (zero-mul k)
    over_times false m k = refl

    under_times : (s : Bool) (m k : ℕ) → under s (m * k) ≡ under s m * k
    under_times true m k = refl
    under_times false m k = sym (zero-mul k)

chain : (p n q m r o a b c : ℕ) → 0 < c → p * b + m * a < q * a + n * b → q * c + o * b ≤ r * b + m * c → p * c + o * a < r * a + n * c
chain p n q m r o a b c C g h = lt_of_mul-lt-mul_right b (omega (arith, mul-lt-mul_of_pos_right g C, mul-le-mul_right a h))

below_chain : (s t u : Bool) (m n k a b c : ℕ) → 0 < c → below s (m * b) t (n * a) ≡ true → below u (k * b) t (n * c) ≡ false → below s (m * c) u (k * a) ≡ true
below_chain s t u m n k a b c C g h =
    scaled s u m k a c
    ∙ lt-ltb _ _ (chain (over s m) (under s m) (over t n) (under t n) (over u k) (under u k) a b c C (ltb-true _ _ (sym (scaled s t m n a b) ∙ g)) (ltb-false _ _ (sym (scaled u t k n c b) ∙ h)))

pub at_least : (x y : Float) → is_finite x ≡ true → is_finite y ≡ true → le x y ≡ not (lt y x)
unfolding le lt eq
at_least nan y p q = absurd (false≢true p)
at_least (inf s) y p q = absurd (false≢true p)
at_least (fin s m e) nan p q = absurd (false≢true q)
at_least (fin s m e) (inf t) p q = absurd (false≢true q)
at_least (fin s m e) (fin t n d) p q = at_least_by s t (m * up e * down d) (n * up d * down e)

-- x is below y, and z is not: then x is below z
pub below_higher : (x y z : Float) → is_finite x ≡ true → is_finite y ≡ true → is_finite z ≡ true → lt x y ≡ true → lt z y ≡ false → lt x z ≡ true
unfolding lt
below_higher nan y z p q r g h = absurd (false≢true p)
below_higher (inf s) y z p q r g h = absurd (false≢true p)
below_higher (fin s m e) nan z p q r g h = absurd (false≢true q)
below_higher (fin s m e) (inf t) z p q r g h = absurd (false≢true q)
below_higher (fin s m e) (fin t n d) nan p q r g h = absurd (false≢true r)
below_higher (fin s m e) (fin t n d) (inf u) p q r g h = absurd (false≢true r)
below_higher (fin s m e) (fin t n d) (fin u k c) p q r g h = below_chain s t u (m * up e) (n * up d) (k * up c) (down e) (down d) (down c) (down_pos c) g h

pub one_way : (x y : Float) → is_finite x ≡ true → is_finite y ≡ true → lt x y ≡ true → lt y x ≡ false
unfolding le
one_way x y p q h = neither (lt y x) (eq y x) (at_least y x q p ∙ ap not h)
  where
    neither : (a b : Bool) → a || b ≡ false → a ≡ false
    neither true b h = h
    neither false b h = refl

pub not_beyond : (x y : Float) → is_finite x ≡ true → is_finite y ≡ true → le x y ≡ true → lt y x ≡ false
not_beyond x y p q h = is_false (lt y x) (subst T (sym (sym (at_least x y p q) ∙ h)) tt)

-- ---- level

level_low : (s t : Bool) (a b : ℕ) → level s a t b ≡ true → below s a t b ≡ false
level_low s t a b h = go s t h
  where
    same : (like : Bool) → eqb a b && like ≡ true → a ≡ b
    same like k = eqb-true a b (is_true (eqb a b) (and_l (eqb a b) like (subst T (sym k) tt)))

    go : (s t : Bool) → level s a t b ≡ true → below s a t b ≡ false
    go false false k = le-ltb a b (le_of_eq (sym (same true k)))
    go false true k = refl
    go true true k = le-ltb b a (le_of_eq (same true k))
    go true false k = is_false (ltb 0 (a + b)) (subst T (sym (sym (both_none a b) ∙ k)) tt)

-- of two that are level neither is below the other
pub level_neither : (x y : Float) → is_finite x ≡ true → is_finite y ≡ true → eq x y ≡ true → (lt x y ≡ false) × (lt y x ≡ false)
unfolding lt le eq
level_neither nan y p q h = absurd (false≢true p)
level_neither (inf s) y p q h = absurd (false≢true p)
level_neither (fin s m e) nan p q h = absurd (false≢true q)
level_neither (fin s m e) (inf t) p q h = absurd (false≢true q)
level_neither (fin s m e) (fin t n d) p q h =
    (level_low s t (m * up e * down d) (n * up d * down e) h, not_beyond (fin s m e) (fin t n d) refl refl (rw h (or-true (lt (fin s m e) (fin t n d)))))

pub level_itself : (x : Float) → is_finite x ≡ true → eq x x ≡ true
unfolding eq
level_itself nan h = absurd (false≢true h)
level_itself (inf s) h = absurd (false≢true h)
level_itself (fin true m e) h = rw (eq-eqb (m * up e * down e) (m * up e * down e) refl)
level_itself (fin false m e) h = rw (eq-eqb (m * up e * down e) (m * up e * down e) refl)
