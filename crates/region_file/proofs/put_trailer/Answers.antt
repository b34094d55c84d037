-- `region_file::put_trailer` meets its contract. Assumes nothing.
use Prim.Native.Nat.{ℕ, ◌+◌}
use native.Mathlib.Omega.{arith}
use mathlib.Core.Path.{◌≡◌, ◌∙◌}
use mathlib.Core.Bool.{Bool, cond}
use mathlib.Core.List.{List, ◌++◌}
use lib.Seq.{sets}
use Rattle.region_file.specs.Bytes.{bytes_of}
use Rattle.region_file.specs.File.{file_length, trailer_bytes}
use Rattle.region.proofs.Seam.{as_number}
use Rattle.region_file.proofs.Numbers.{run}
use Rattle.region_file.proofs.put_trailer.Goals as goal

four : (l₀ l₁ l₂ l₃ l₄ : List ℕ) (at set n distance : ℕ) (flag : Bool) → set ≡ cond flag 1 0 → distance ≡ file_length n
    → l₁ ≡ sets l₀ at (bytes_of 4 1) → l₂ ≡ sets l₁ (at + 4) (bytes_of 4 set) → l₃ ≡ sets l₂ (at + 8) (bytes_of 4 n) → l₄ ≡ sets l₃ (at + 12) (bytes_of 4 distance)
    → l₄ ≡ sets l₀ at (trailer_bytes flag n)
unfolding bytes_of trailer_bytes
four l₀ l₁ l₂ l₃ l₄ at set n distance flag p q h₁ h₂ h₃ h₄ =
    h₄ ∙ run 4 n (bytes_of 4 distance) l₂ l₃ (at + 8) (at + 12) (omega arith) h₃
    ∙ run 4 set (bytes_of 4 n ++ bytes_of 4 distance) l₁ l₂ (at + 4) (at + 8) (omega arith) h₂
    ∙ run 4 1 (bytes_of 4 set ++ bytes_of 4 n ++ bytes_of 4 distance) l₀ l₁ at (at + 4) (omega arith) h₁
    ∙ rw (p, q)

pub returns : goal.returns
returns c = four _ _ _ _ _ _ _ c.args.count _ c.args.flag (as_number c.args.flag) c.file_length.ensures c.put_number.ensures c.put_number-2.ensures c.put_number-3.ensures c.put_number-4.ensures
