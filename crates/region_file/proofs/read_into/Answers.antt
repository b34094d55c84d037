-- `region_file::read_into` meets its contract. Assumes nothing.
use native.Mathlib.Omega.{arith}
use mathlib.Core.Bool.{false}
use mathlib.Core.Path.{◌≡◌, refl, sym, ap, ◌∙◌}
use Rattle.std.specs.Prelude.{⊤}
use Rattle.std.specs.Result.{IsErrAnd}
use Rattle.std.specs.declared.result.Result.{Result}
use Rattle.std.specs.declared.result.Result.TheVariants.{Err}
use Rattle.std.proofs.lemmas.Result.{err_from_is_err_and}
use Rattle.refusal.specs.Answer.{Answer, refused_for}
use Rattle.refusal.specs.declared.Cause.{Cause}
use Rattle.region.specs.Region.{Builds}
use Rattle.region.specs.View.{View, view_of, empty}
use Rattle.region.specs.declared.Region.{Region}
use Rattle.region.proofs.Answered.{builds_not, builds_same}
use Rattle.region.proofs.Building.{still_empty}
use Rattle.region_file.proofs.Trailers.{Accepted, accepted}
use Rattle.region_file.proofs.Reading.{read_refused, corner_refused, read_drawn}
use Rattle.region_file.proofs.read_into.Goals as goal
use Rattle.region_file.proofs.read_into.Goals.{In_ok-flag}

-- a refusal beside a region that is empty
refuses : (r : Region) (o : Result ⊤ Cause) (cause : Cause) (x : Answer View) → view_of r ≡ empty false → IsErrAnd o (λ e. e ≡ cause) → refused_for cause ≡ x → Builds (record { region = r; outcome = o }) x
refuses r o cause x e h p = let t = err_from_is_err_and o h in builds_same _ _ _ p (builds_not (record { region = r; outcome = o }) cause (t.1 ∙ ap Err t.2) e)

known : (c : In_ok-flag) → Accepted c.args.file.now c.in_ok-flag.field-0
known c = accepted _ _ (sym c.in_ok-flag.ensures)

pub returns-in_err-flag : goal.returns-in_err-flag
returns-in_err-flag c = refuses _ _ _ _ c.requires c.from_residual.ensures.1 (read_refused _ _ _ c.in_err-flag.ensures)

pub file_length-requires : goal.file_length-requires
file_length-requires c = let a = (known c).few in omega (arith, a)

pub overflow_sub-at : goal.overflow_sub-at
overflow_sub-at c = let w = (known (goal.at.overflow_sub-at c).In_ok-flag).whole in omega (arith, w, c.file_length.ensures)

pub checked_corners_at-requires : goal.checked_corners_at-requires
checked_corners_at-requires c =
    let k = known (goal.at.checked_corners_at-requires c).In_ok-flag in
    let w = k.whole in
    (k.few, omega (arith, w, c.file_length.ensures))

pub returns-in_err-checked_corners_at : goal.returns-in_err-checked_corners_at
returns-in_err-checked_corners_at c =
    refuses _ _ _ _ (still_empty _ _ c.requires) c.from_residual-in_err-checked_corners_at.ensures.1 (corner_refused _ _ _ c.in_ok-flag.ensures c.file_length.ensures _ _ c.in_err-checked_corners_at.ensures)

pub returns : goal.returns
returns c = read_drawn _ _ _ c.in_ok-flag.ensures c.file_length.ensures _ c.draw_edges.ensures.answer refl refl c.in_ok-checked_corners_at.ensures
