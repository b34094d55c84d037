-- `region_file::put_corner` meets its contract. Assumes nothing.
use Prim.Native.Nat.{ℕ, ◌+◌}
use native.Mathlib.Omega.{arith}
use mathlib.Core.Path.{◌≡◌, ◌∙◌}
use mathlib.Core.List.{List, ◌++◌}
use lib.Ieee.{binary64, to_bits}
use lib.Seq.{sets}
use Rattle.coo3d.specs.declared.Coo3D.{Coo3D}
use Rattle.region_file.specs.Bytes.{bytes_of, double_bytes, corner_bytes}
use Rattle.region_file.proofs.Numbers.{run}
use Rattle.region_file.proofs.put_corner.Goals as goal

five : (l₀ l₁ l₂ l₃ l₄ l₅ : List ℕ) (at : ℕ) (p : Coo3D) → l₁ ≡ sets l₀ at (double_bytes p.x) → l₂ ≡ sets l₁ (at + 8) (double_bytes p.y) → l₃ ≡ sets l₂ (at + 16) (double_bytes p.z)
    → l₄ ≡ sets l₃ (at + 24) (double_bytes p.lon) → l₅ ≡ sets l₄ (at + 32) (double_bytes p.lat) → l₅ ≡ sets l₀ at (corner_bytes p)
unfolding bytes_of corner_bytes
five l₀ l₁ l₂ l₃ l₄ l₅ at p h₁ h₂ h₃ h₄ h₅ =
    h₅ ∙ run 8 (to_bits binary64 p.lon) (double_bytes p.lat) l₃ l₄ (at + 24) (at + 32) (omega arith) h₄
    ∙ run 8 (to_bits binary64 p.z) (double_bytes p.lon ++ double_bytes p.lat) l₂ l₃ (at + 16) (at + 24) (omega arith) h₃
    ∙ run 8 (to_bits binary64 p.y) (double_bytes p.z ++ double_bytes p.lon ++ double_bytes p.lat) l₁ l₂ (at + 8) (at + 16) (omega arith) h₂
    ∙ run 8 (to_bits binary64 p.x) (double_bytes p.y ++ double_bytes p.z ++ double_bytes p.lon ++ double_bytes p.lat) l₀ l₁ at (at + 8) (omega arith) h₁

pub returns : goal.returns
returns c = five _ _ _ _ _ _ _ c.args.p c.put_double.ensures c.put_double-2.ensures c.put_double-3.ensures c.put_double-4.ensures c.put_double-5.ensures
