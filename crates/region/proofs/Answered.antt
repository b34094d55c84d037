-- Laws of `Builds`, for calls that answer a region beside an outcome and for their callers.
use Prim.Native.Nat.{ℕ}
use mathlib.Core.Bool.{false}
use mathlib.Core.List.{List, []}
use mathlib.Core.Path.{◌≡◌, refl, sym, subst, ap, ◌∙◌}
use Rattle.std.specs.declared.result.Result.{Result}
use Rattle.std.specs.declared.result.Result.TheVariants.{Ok, Err}
use Rattle.std.specs.Prelude.{⊤}
use Rattle.refusal.specs.declared.Cause.{Cause}
use Rattle.refusal.specs.Answer.{Answer, answered, refused, refused_for, outcome_of}
use Rattle.refusal.proofs.Answers.{never, same_answer}
use Rattle.refusal.proofs.Table.{one_cause}
use Rattle.region.specs.declared.Built.{Built}
use Rattle.region.specs.View.{View, view_of, empty}
use Rattle.region.specs.Region.{region_by, Builds}

pub builds_done : (b : Built) (v : View) → b.outcome ≡ Ok tt → view_of b.region ≡ v → Builds b (answered v)
builds_done b v e w = record { outcome = rw e; view = w }

-- an outcome beside a region that together answer a view
pub builds_told : (b : Built) (v : View) → outcome_of b.outcome (view_of b.region) ≡ answered v → Builds b (answered v)
builds_told b v e = let t = go b.outcome (view_of b.region) e in record { outcome = t.0; view = t.1 }
  where
    go : (o : Result ⊤ Cause) (w : View) → outcome_of o w ≡ answered v → (outcome_of o v ≡ answered v) × (w ≡ v)
    go (Ok tt) w h = (refl, same_answer h)
    go (Err cause) w h = never h

-- a refusal beside the empty region
pub builds_not : (b : Built) (cause : Cause) → b.outcome ≡ Err cause → view_of b.region ≡ empty false → Builds b (refused_for cause)
builds_not b cause e w = record { outcome = rw e; view = w }

pub builds_same : (b : Built) (x y : Answer View) → x ≡ y → Builds b x → Builds b y
builds_same b x y e h = subst (Builds b) e h

-- an outcome is known by the answer
pub same_outcome : (a b : Built) (x : Answer View) → Builds a x → Builds b x → a.outcome ≡ b.outcome
same_outcome a b x h k = go a.outcome b.outcome (h.outcome ∙ sym k.outcome)
  where
    number : Answer View → ℕ
    number (answered v) = 0
    number (refused n vs) = n

    values : Answer View → List ℕ
    values (answered v) = []
    values (refused n vs) = vs

    go : (o p : Result ⊤ Cause) → outcome_of o (region_by x) ≡ outcome_of p (region_by x) → o ≡ p
    go (Ok a) (Ok b) e = refl
    go (Ok a) (Err c) e = never (sym e)
    go (Err c) (Ok b) e = never e
    go (Err c) (Err d) e = ap Err (one_cause c d (ap number e) (ap values e))

-- the outcome and the view together
pub as_answer : (b : Built) (x : Answer View) → Builds b x → outcome_of b.outcome (view_of b.region) ≡ x
as_answer b x h = ap (outcome_of b.outcome) h.view ∙ h.outcome

-- where there is an answer, the call is done
pub answered_done : (b : Built) (v : View) → Builds b (answered v) → b.outcome ≡ Ok tt
answered_done b v h = go b.outcome h.outcome
  where
    go : (o : Result ⊤ Cause) → outcome_of o v ≡ answered v → o ≡ Ok tt
    go (Ok tt) e = refl
    go (Err cause) e = never e
