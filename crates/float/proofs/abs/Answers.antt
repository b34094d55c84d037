use Prim.Native.Nat.{ℕ, zero, suc, ◌+◌, ◌*◌, ◌^◌, ◌<◌}
use native.Mathlib.Nat.{lt_irrefl, eq-zero-or-pos, mul-pos, pow-succ'}
use native.Mathlib.Omega.{arith}
use mathlib.Core.Path.{◌≡◌, refl, sym, ap, ◌∙◌, subst}
use mathlib.Core.Bool.{Bool, true, false, ◌&&◌, cond, true≢false, false≢true}
use mathlib.Core.Logic.{⊎_elim}
use lib.Dec.{T, eqb, ltb, eqb→eq}
use borrow.Author.Tests.{ltb-false, eqb-true, eq-eqb}
use lib.IntN.{ℤ, pos, negsuc}
use lib.Ieee.{Float, nan, inf, fin, binary64, up, down, lt, eq, neg, of_bits, fits}
use lib.Ieee.Fits.{up_pos, down_pos}
use Rattle.float.specs.Doubles.{abs_of, max_of, nought}
use Rattle.float.proofs.abs.Goals as goal

-- `float::abs` meets its contract, case by case. Assumes nothing.

-- a zero is written in one way
at_one : (s : Bool) (e : ℤ) → T (fits binary64 (fin s 0 e)) → e ≡ pos 0
unfolding fits
at_one s (pos zero) f = refl
at_one s (pos (suc k)) f = absurd (no (eqb→eq (2 ^ suc k * 1) 1 f))
  where
    no : 2 ^ suc k * 1 ≡ 1 → ⊥
    no g = omega (arith, pow-succ' 2 k)
at_one s (negsuc k) f = absurd (no (eqb→eq (1 * 2 ^ suc k) 1 f))
  where
    no : 1 * 2 ^ suc k ≡ 1 → ⊥
    no g = omega (arith, pow-succ' 2 k)

none : (x : Float) → T (fits binary64 x) → eq x nought ≡ true → nought ≡ abs_of x
unfolding eq abs_of of_bits
none nan f h = absurd (false≢true h)
none (inf s) f h = absurd (false≢true h)
none (fin s zero e) f h = ap (fin false 0) (sym (at_one s e f))
none (fin s (suc m) e) f h = absurd (no (suc m * up e) (down e) (mul-pos (omega arith) (up_pos e)) (eqb-true (suc m * up e * 1) (0 * 1 * down e) (first _ _ h)))
  where
    first : (a b : Bool) → a && b ≡ true → a ≡ true
    first true b g = refl
    first false b g = g

    no : (a d : ℕ) → 0 < a → a * 1 ≡ 0 * 1 * d → ⊥
    no a d p g = omega arith

-- of any other number, the larger one of it and its opposite
other : (x : Float) → eq x nought ≡ false → max_of x (neg x) ≡ abs_of x
unfolding lt eq neg abs_of of_bits
other nan h = refl
other (inf true) h = refl
other (inf false) h = refl
other (fin false m e) h = refl
other (fin true m e) h = go (ltb 0 (m * up e * down e + m * up e * down e)) refl
  where
    no : (a b : ℕ) → a ≡ 0 → b ≡ 0 → eqb a b && eqb a 0 ≡ false → ⊥
    no a b p q g = true≢false (sym (ap (λ (t : Bool). t && eqb a 0) (eq-eqb a b (p ∙ sym q)) ∙ eq-eqb a 0 p) ∙ g)

    some : m * up e ≡ 0 → ⊥
    some z = no (m * up e * 1) (0 * 1 * down e) (omega (arith, z)) (omega arith) h

    go : (b : Bool) → ltb 0 (m * up e * down e + m * up e * down e) ≡ b → cond b (fin false m e) (fin true m e) ≡ fin false m e
    go true k = refl
    go false k = absurd (⊎_elim some (λ q. lt_irrefl 0 (omega (arith, mul-pos q (down_pos e), ltb-false 0 (m * up e * down e + m * up e * down e) k))) (eq-zero-or-pos (m * up e)))

pub returns-then-x : goal.returns-then-x
returns-then-x c = none c.args.x (subst T (sym c.well_formed.0.1) tt) c.if-x.true

pub returns-else-x : goal.returns-else-x
returns-else-x c = c.max.ensures ∙ other c.args.x c.if-x.false
