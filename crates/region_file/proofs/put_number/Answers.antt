-- `region_file::put_number` meets its contract. Assumes nothing.
use mathlib.Core.Path.{ap, ◌∙◌}
use lib.ListN.{take}
use Rattle.region_file.proofs.Numbers.{length_bytes, take_bytes, written_bytes, part_set}
use Rattle.region_file.proofs.put_number.Goals as goal

pub returns : goal.returns
returns n c =
    let w = n.row.N in
    part_set _ _ _ _ w c.requires.1 (length_bytes w c.args.n)
    (c.copy_from_slice.ensures.after ∙ ap (take w) (c.to_le_bytes.ensures ∙ written_bytes 16 c.args.n) ∙ take_bytes w 16 c.args.n c.requires.0)
