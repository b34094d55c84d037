-- `region_file::read_trailer` meets its contract. Assumes nothing.
use Rattle.region_file.proofs.Refusing.{handed_on}
use Rattle.region_file.proofs.Trailers.{Fields, short_file, begins_at, wrong_edition, wrong_flag, wrong_count, wrong_distance, cut, good}
use Rattle.region_file.proofs.read_trailer.Goals as goal
use Rattle.region_file.proofs.read_trailer.Goals.{After-u32_at-distance}

fields : (c : After-u32_at-distance) → Fields c.args.file.now c.u32_at-edition.result c.u32_at-flag.result c.u32_at-count.result c.u32_at-distance.result
fields c = begins_at _ _ c.checked_sub.ensures _ c.in_ok-at.ensures.value _ _ _ _ c.u32_at-edition.ensures c.u32_at-flag.ensures c.u32_at-count.ensures c.u32_at-distance.ensures

pub returns-in_err-at : goal.returns-in_err-at
returns-in_err-at c = handed_on _ _ _ c.from_residual.ensures.1 (short_file _ _ c.checked_sub.ensures _ c.in_err-at.ensures.value)

pub returns-then-edition-ne1 : goal.returns-then-edition-ne1
returns-then-edition-ne1 c =
    let f = fields (goal.at.returns-then-edition-ne1 c).After-u32_at-distance in
    elim c.then-edition-ne1.branch [
      | goal.then-edition-ne1-via-then-edition-ne1 w ↦ wrong_edition f w.if-edition-ne1.true
      | goal.then-edition-ne1-via-else-edition-ne1+then-flag-gt1 w ↦ wrong_flag f w.if-edition-ne1.false w.if-flag-gt1.true
    ]

pub returns-in_err-check_count : goal.returns-in_err-check_count
returns-in_err-check_count c =
    let f = fields (goal.at.returns-in_err-check_count c).After-u32_at-distance in
    handed_on _ _ _ c.from_residual-in_err-check_count.ensures.1 (wrong_count f c.if-edition-ne1.false c.if-flag-gt1.false c.in_err-check_count.ensures.answer)

pub returns-then-distance-whole : goal.returns-then-distance-whole
returns-then-distance-whole c =
    let f = fields (goal.at.returns-then-distance-whole c).After-u32_at-distance in
    let few = c.in_ok-check_count.ensures.few in
    elim c.then-distance-whole.branch [
      | goal.then-distance-whole-via-then-distance-whole w ↦ wrong_distance f c.if-edition-ne1.false c.if-flag-gt1.false few c.file_length-whole.ensures w.if-distance-whole.true
      | goal.then-distance-whole-via-else-distance-whole+then-len-whole w ↦ cut f c.if-edition-ne1.false c.if-flag-gt1.false few c.file_length-whole.ensures w.if-distance-whole.false w.if-len-whole.true
    ]

pub returns : goal.returns
returns c =
    let f = fields (goal.at.returns c).After-u32_at-distance in
    good f c.if-edition-ne1.false c.if-flag-gt1.false c.in_ok-check_count.ensures.few c.file_length-whole.ensures c.if-distance-whole.false c.if-len-whole.false
