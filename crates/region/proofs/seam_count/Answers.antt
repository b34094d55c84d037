-- `region::seam_count` meets its contract. Assumes nothing.
use mathlib.Core.Path.{sym}
use Rattle.std.proofs.lemmas.Result.{err_from_is_err_and}
use Rattle.domain.proofs.Counts.{count_in, count_refused}
use Rattle.refusal.specs.Answer.{answered}
use Rattle.region.specs.Region.{seam_count_of}
use Rattle.region.proofs.seam_count.Goals as goal

pub returns-in_err-check_count : goal.returns-in_err-check_count
unfolding seam_count_of
returns-in_err-check_count c = let p = err_from_is_err_and c.from_residual.result c.from_residual.ensures.1 in rw (p.1, p.2) (count_refused c.args.r.count tt (answered c.args.r.seam_count) c.in_err-check_count.ensures.answer)

pub returns : goal.returns
unfolding seam_count_of
returns c = sym (count_in _ _ c.in_ok-check_count.ensures.few)
