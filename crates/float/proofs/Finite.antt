-- What lies between two finite doubles is finite, a finite one less an equal one is a zero, and less another no NaN.
use Prim.Native.Nat.{ℕ, zero, suc, ◌+◌, ◌-◌, ◌*◌, ◌^◌, ◌<◌}
use native.Mathlib.Nat.{le_refl, mul-pos, sub_self, zero-mul}
use native.Mathlib.Omega.{arith}
use mathlib.Core.Path.{◌≡◌, refl, sym, ◌∙◌, subst}
use mathlib.Core.Bool.{Bool, true, false, not, ◌&&◌, ◌||◌, beq, cond, false≢true}
use borrow.Author.Tests.{le-ltb, eqb-true}
use lib.Dec.{T, ltb, eqb}
use lib.IntN.{ℤ, pos}
use lib.Ieee.{Float, nan, inf, fin, Format, binary32, binary64, prec, emax, low, up, down, is_nan, odd, units, round, sum, add, sub, neg, level, lt, eq, le, of_bits}
use lib.Ieee.Bits.{is_true}
use lib.Ieee.Fits.{down_pos, round_is, and_l, and_r}
use lib.Ieee.Scale.{round_same}
use Rattle.float.specs.Doubles.{◌⊖◌, nought, is_finite, inclusive}

pub between_finite : (s t : Bool) (m n : ℕ) (d e : ℤ) (x : Float) → inclusive (fin s m d) x (fin t n e) ≡ true → is_finite x ≡ true
unfolding le lt eq
between_finite s t m n d e nan h = h
between_finite s t m n d e (inf true) h = h
between_finite s t m n d e (inf false) h = h
between_finite s t m n d e (fin u k c) h = refl

zero_rounded : (f : Format) (s : Bool) → round f s 0 1 ≡ fin s 0 (pos 0)
unfolding round
zero_rounded binary32 true = refl
zero_rounded binary32 false = refl
zero_rounded binary64 true = refl
zero_rounded binary64 false = refl

-- a zero is rounded to itself, with its sign
pub zero_over : (f : Format) (s : Bool) (c : ℕ) → 0 < c → round f s 0 c ≡ fin s 0 (pos 0)
zero_over f s c h = round_same f s 0 c 0 1 h (omega arith) (sym (zero-mul c)) ∙ zero_rounded f s

cancels : (s : Bool) (a c : ℕ) → 0 < c → sum binary64 s a (not s) a c ≡ nought
unfolding sum of_bits
cancels true a c h = rw (le-ltb a a (le_refl a), sub_self a) (zero_over binary64 false c h)
cancels false a c h = rw (le-ltb a a (le_refl a), sub_self a) (zero_over binary64 false c h)

-- either zero
abbrev pub Zero : Float → Type 0
Zero x = (s : Bool) × (x ≡ fin s 0 (pos 0))

level_cancels : (s t : Bool) (a b c : ℕ) → 0 < c → level s a t b ≡ true → Zero (sum binary64 t b (not s) a c)
unfolding sum of_bits
level_cancels s t a b c h e =
    let same = eqb a b in
    let like = beq s t || eqb a 0 in
    let k : T (same && like) = subst T (sym e) tt in
    go s t (eqb-true a b (is_true same (and_l same like k))) (is_true like (and_r same like k))
  where
    go : (s t : Bool) → a ≡ b → beq s t || eqb a 0 ≡ true → Zero (sum binary64 t b (not s) a c)
    go true true e z = (false, rw e (cancels true b c h))
    go false false e z = (false, rw e (cancels false b c h))
    go true false e z = (false, rw (sym e, eqb-true a 0 z) (zero_over binary64 false c h))
    go false true e z = (true, rw (sym e, eqb-true a 0 z) (zero_over binary64 true c h))

pub level_less : (x y : Float) → is_finite x ≡ true → is_finite y ≡ true → eq x y ≡ true → Zero (y ⊖ x)
unfolding sub add neg eq
level_less nan y p q h = absurd (false≢true p)
level_less (inf s) y p q h = absurd (false≢true p)
level_less (fin s m e) nan p q h = absurd (false≢true q)
level_less (fin s m e) (inf t) p q h = absurd (false≢true q)
level_less (fin s m e) (fin t n d) p q h = level_cancels s t (m * up e * down d) (n * up d * down e) (down d * down e) (mul-pos (down_pos d) (down_pos e)) h

-- ---- a difference of finite ones is no NaN

-- a number or an infinity of that sign
abbrev pub Signed : Bool → Float → Type 0
Signed s nan = ⊥
Signed s (inf t) = t ≡ s
Signed s (fin t m e) = t ≡ s

units_signed : (f : Format) (s : Bool) (q k : ℕ) → Signed s (units f s q k)
unfolding units odd
units_signed f s zero k = go (ltb (zero * 2 ^ k) (2 ^ (low f + suc (emax f))))
  where
    go : (b : Bool) → Signed s (cond b (fin s zero (pos zero)) (inf s))
    go true = refl
    go false = refl
units_signed f s (suc q) k = go (ltb (suc q * 2 ^ k) (2 ^ (low f + suc (emax f))))
  where
    go : (b : Bool) → Signed s (cond b (odd (suc (prec f)) s (suc q) k (low f)) (inf s))
    go true = refl
    go false = refl

-- what is rounded keeps its sign
pub round_signed : (f : Format) (s : Bool) (a c : ℕ) → Signed s (round f s a c)
round_signed f s a c = subst (Signed s) (sym (round_is f s a c)) (units_signed f s _ _)

signed_real : (s : Bool) (x : Float) → Signed s x → is_nan x ≡ false
unfolding is_nan
signed_real s nan h = absurd h
signed_real s (inf t) h = refl
signed_real s (fin t m e) h = refl

sum_real : (f : Format) (s t : Bool) (a b c : ℕ) → is_nan (sum f s a t b c) ≡ false
unfolding sum
sum_real f s t a b c = go (beq s t) (ltb a b)
  where
    go : (x y : Bool) → is_nan (cond x (round f s (a + b) c) (cond y (round f t (b - a) c) (round f (s && ltb b a) (a - b) c))) ≡ false
    go true y = signed_real s _ (round_signed f s (a + b) c)
    go false true = signed_real t _ (round_signed f t (b - a) c)
    go false false = signed_real (s && ltb b a) _ (round_signed f (s && ltb b a) (a - b) c)

pub difference_real : (x y : Float) → is_finite x ≡ true → is_finite y ≡ true → is_nan (x ⊖ y) ≡ false
unfolding sub add neg
difference_real nan y p q = absurd (false≢true p)
difference_real (inf s) y p q = absurd (false≢true p)
difference_real (fin s m e) nan p q = absurd (false≢true q)
difference_real (fin s m e) (inf t) p q = absurd (false≢true q)
difference_real (fin s m e) (fin t n d) p q = sum_real binary64 s (not t) (m * up e * down d) (n * up d * down e) (down e * down d)
