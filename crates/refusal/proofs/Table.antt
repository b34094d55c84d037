-- No two causes have the same number and values: a cause is read back from them. So an answer fixes the cause of its refusal.
use Prim.Native.Nat.{ℕ, ◌≤◌}
use native.Mathlib.Omega.{arith}
use mathlib.Core.Path.{◌≡◌, refl, sym, ap, ◌∙◌}
use mathlib.Core.Bool.{cond}
use mathlib.Core.List.{List, [], ◌∷◌}
use lib.Dec.{eqb}
use Rattle.refusal.specs.declared.Cause.{Cause}
use Rattle.refusal.specs.declared.Cause.TheVariants.{OutsideDomain, NoPoint, TooManyPoints, NoSuchIndex, NoSuchParallel, NotFinite, WrongTrailer, ShortOutput, ZoneBounds}
use Rattle.refusal.specs.Table.{number_of, values_of}

first : List ℕ → ℕ
first [] = 0
first (v ∷ vs) = v

cause_for : ℕ → List ℕ → Cause
unfolding first
cause_for number values =
    cond (eqb number 1) (OutsideDomain (first values))
    (cond (eqb number 2) NoPoint
    (cond (eqb number 3) TooManyPoints
    (cond (eqb number 4) NoSuchIndex
    (cond (eqb number 5) NoSuchParallel
    (cond (eqb number 6) NotFinite
    (cond (eqb number 7) WrongTrailer
    (cond (eqb number 8) (ShortOutput (first values)) ZoneBounds)))))))

read_back : (cause : Cause) → cause_for (number_of cause) (values_of cause) ≡ cause
unfolding cause_for
read_back (OutsideDomain index) = refl
read_back NoPoint = refl
read_back TooManyPoints = refl
read_back NoSuchIndex = refl
read_back NoSuchParallel = refl
read_back NotFinite = refl
read_back WrongTrailer = refl
read_back (ShortOutput needed) = refl
read_back ZoneBounds = refl

pub one_cause : (a b : Cause) → number_of a ≡ number_of b → values_of a ≡ values_of b → a ≡ b
one_cause a b n v = sym (read_back a) ∙ ap (λ (k : ℕ). cause_for k (values_of a)) n ∙ ap (cause_for (number_of b)) v ∙ read_back b

-- the table ends with 9
pub number_small : (c : Cause) → number_of c ≤ 9
number_small (OutsideDomain i) = omega arith
number_small NoPoint = omega arith
number_small TooManyPoints = omega arith
number_small NoSuchIndex = omega arith
number_small NoSuchParallel = omega arith
number_small NotFinite = omega arith
number_small WrongTrailer = omega arith
number_small (ShortOutput n) = omega arith
number_small ZoneBounds = omega arith
