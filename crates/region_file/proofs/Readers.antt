-- The two readers agree.
use mathlib.Core.Path.{◌∙◌, sym}
use Rattle.region.proofs.Answered.{same_outcome}
use Rattle.region_file.specs.File.{read_of}
use Rattle.region_file.specs.Readers.{ReadersAgree}

pub readers_agree : ReadersAgree
readers_agree s copied straight c d = (same_outcome copied straight (read_of s) c d, c.view ∙ sym d.view)
