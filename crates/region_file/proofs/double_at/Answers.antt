-- `region_file::double_at` meets its contract. Assumes nothing.
use mathlib.Core.Path.{ap, ◌∙◌}
use lib.Ieee.{binary64, of_bits}
use Rattle.region_file.proofs.Numbers.{read_8}
use Rattle.region_file.proofs.double_at.Goals as goal

pub returns : goal.returns
returns c = c.from_bits.ensures ∙ ap (of_bits binary64) (c.from_le_bytes.ensures ∙ read_8 _ _ _ c.requires c.bytes_at.ensures)
