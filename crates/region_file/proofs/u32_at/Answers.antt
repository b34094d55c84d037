-- `region_file::u32_at` meets its contract. Assumes nothing.
use mathlib.Core.Path.{◌∙◌}
use Rattle.region_file.proofs.Numbers.{read_4}
use Rattle.region_file.proofs.u32_at.Goals as goal

pub returns : goal.returns
returns c = c.from_le_bytes.ensures ∙ read_4 _ _ _ c.requires c.bytes_at.ensures
