-- The two readers: the one that copies all corners out, then builds, and the one that builds straight from the bytes. Each meets its contract with `read_of`.
use Rattle.std.specs.Prelude.{ℕ, ◌≡◌, List}
use Rattle.region.specs.declared.Built.{Built}
use Rattle.region.specs.Region.{Builds}
use Rattle.region.specs.View.{view_of}
use Rattle.region_file.specs.File.{read_of}

-- whatever the bytes, the two end with one outcome, and with one region to every call
abbrev pub ReadersAgree : Type 0
ReadersAgree =
    (s : List ℕ) (copied straight : Built) → Builds copied (read_of s) → Builds straight (read_of s)
    → (copied.outcome ≡ straight.outcome) × (view_of copied.region ≡ view_of straight.region)
