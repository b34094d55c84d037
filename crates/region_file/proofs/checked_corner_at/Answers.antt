-- `region_file::checked_corner_at` meets its contract. Assumes nothing.
use mathlib.Core.Path.{sym}
use Rattle.std.proofs.Math.Bool.{and-false}
use Rattle.region_file.specs.Bytes.{corner_at}
use Rattle.region_file.proofs.Refusing.{handed_on}
use Rattle.region_file.proofs.Reading.{number_refused, number_taken}
use Rattle.region_file.proofs.checked_corner_at.Goals as goal

pub returns-in_err-checked_double_at : goal.returns-in_err-checked_double_at
unfolding corner_at
returns-in_err-checked_double_at c = handed_on _ _ _ c.from_residual.ensures.1 (number_refused _ c.args.index _ _ c.in_err-checked_double_at.ensures (corner_at c.args.s.now c.args.at) (λ e. rw e))

pub returns-in_err-checked_double_at-2 : goal.returns-in_err-checked_double_at-2
unfolding corner_at
returns-in_err-checked_double_at-2 c = handed_on _ _ _ c.from_residual-in_err-checked_double_at-2.ensures.1 (number_refused _ c.args.index _ _ c.in_err-checked_double_at-2.ensures (corner_at c.args.s.now c.args.at) (λ e. simp (e, and-false)))

pub returns-in_err-checked_double_at-3 : goal.returns-in_err-checked_double_at-3
unfolding corner_at
returns-in_err-checked_double_at-3 c = handed_on _ _ _ c.from_residual-in_err-checked_double_at-3.ensures.1 (number_refused _ c.args.index _ _ c.in_err-checked_double_at-3.ensures (corner_at c.args.s.now c.args.at) (λ e. simp (e, and-false)))

pub returns-in_err-checked_double_at-4 : goal.returns-in_err-checked_double_at-4
unfolding corner_at
returns-in_err-checked_double_at-4 c = handed_on _ _ _ c.from_residual-in_err-checked_double_at-4.ensures.1 (number_refused _ c.args.index _ _ c.in_err-checked_double_at-4.ensures (corner_at c.args.s.now c.args.at) (λ e. simp (e, and-false)))

pub returns-in_err-checked_double_at-5 : goal.returns-in_err-checked_double_at-5
unfolding corner_at
returns-in_err-checked_double_at-5 c = handed_on _ _ _ c.from_residual-in_err-checked_double_at-5.ensures.1 (number_refused _ c.args.index _ _ c.in_err-checked_double_at-5.ensures (corner_at c.args.s.now c.args.at) (λ e. simp (e, and-false)))

pub returns : goal.returns
unfolding corner_at
returns c =
    let x = number_taken _ _ _ _ c.in_ok-checked_double_at.ensures in
    let y = number_taken _ _ _ _ c.in_ok-checked_double_at-2.ensures in
    let z = number_taken _ _ _ _ c.in_ok-checked_double_at-3.ensures in
    let lon = number_taken _ _ _ _ c.in_ok-checked_double_at-4.ensures in
    let lat = number_taken _ _ _ _ c.in_ok-checked_double_at-5.ensures in
    rw (sym x, sym y, sym z, sym lon, sym lat) c.check_point.ensures
