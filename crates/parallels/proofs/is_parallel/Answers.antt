-- `parallels::is_parallel` meets its contract: bounds leave only finite numbers, so that no test asks for them. Assumes nothing.
use mathlib.Core.Path.{◌≡◌, refl, sym}
use mathlib.Core.Bool.{Bool, true, false, ◌&&◌, and-false}
use lib.Ieee.{Float, neg, of_bits}
use Rattle.float.specs.Doubles.{inclusive, one, half_pi}
use Rattle.float.proofs.Finite.{between_finite}
use Rattle.parallels.specs.Parallels.{is_parallel}
use Rattle.parallels.proofs.is_parallel.Goals as goal

-- three tests that hold only with three others add nothing to them
absorb : (f1 f2 f3 w1 w2 w3 : Bool) → (w1 ≡ true → f1 ≡ true) → (w2 ≡ true → f2 ≡ true) → (w3 ≡ true → f3 ≡ true) → ((f1 && f2 && f3) && w1 && w2 && w3) ≡ (w1 && w2 && w3)
absorb f1 f2 f3 true true true h1 h2 h3 = simp (h1 refl, h2 refl, h3 refl)
absorb f1 f2 f3 true true false h1 h2 h3 = simp and-false
absorb f1 f2 f3 true false w3 h1 h2 h3 = simp and-false
absorb f1 f2 f3 false w2 w3 h1 h2 h3 = simp and-false

finite_too : (lat sin cos : Float) → is_parallel lat sin cos ≡ (inclusive (neg half_pi) lat half_pi && inclusive (neg one) sin one && inclusive (neg one) cos one)
unfolding is_parallel of_bits neg
finite_too lat sin cos = absorb _ _ _ _ _ _ (between_finite _ _ _ _ _ _ lat) (between_finite _ _ _ _ _ _ sin) (between_finite _ _ _ _ _ _ cos)

pub returns : goal.returns
returns c =
    let a = c.args in
    simp (c.within.ensures, c.within-2.ensures, c.within-3.ensures) (sym (finite_too a.lat a.sin a.cos))
