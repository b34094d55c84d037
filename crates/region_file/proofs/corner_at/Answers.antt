-- `region_file::corner_at` meets its contract. Assumes nothing.
use borrow.Author.Rules.{rules}
use Rattle.region_file.specs.Bytes.{corner_at}
use Rattle.region_file.proofs.corner_at.Goals as goal

pub returns : goal.returns
unfolding corner_at
returns c = search rules
