-- `region_file::put_double` meets its contract. Assumes nothing.
use mathlib.Core.Path.{ap, ◌∙◌}
use Rattle.region_file.specs.Bytes.{bytes_of}
use Rattle.region_file.proofs.Numbers.{length_bytes, written_bytes, part_set}
use Rattle.region_file.proofs.put_double.Goals as goal

pub returns : goal.returns
returns c = part_set _ _ _ _ 8 c.requires (length_bytes 8 _) (c.copy_from_slice.ensures.after ∙ c.to_le_bytes.ensures ∙ written_bytes 8 _ ∙ ap (bytes_of 8) c.to_bits.ensures)
