-- What the C doors answer, and what they leave in the file: document 01, 'Region file'. The file is tested before the point.
use Rattle.std.specs.Prelude.{ℕ, ◌+◌, Bool, cond, List}
use Rattle.coo3d.specs.declared.Coo3D.{Coo3D}
use Rattle.edits.specs.Edits.{edit_of}
use Rattle.edits.specs.Edits as edit
use Rattle.refusal.specs.Answer.{Answer, answered, refused, and_then}
use Rattle.region.specs.View.{View}
use Rattle.region.specs.Region.{contains_of}
use Rattle.region_file.specs.File.{read_of, with_flag_field}

-- a refusal is 16 plus its number
abbrev pub code_of : {A : Type 0} → (A → ℕ) → Answer A → ℕ
code_of say (answered a) = say a
code_of say (refused number values) = 16 + number

-- 1 inside, 0 outside
abbrev pub in_or_out : Bool → ℕ
in_or_out inside = cond inside 1 0

unfoldable pub contains_code : List ℕ → Coo3D → ℕ
contains_code s p = code_of in_or_out (and_then (read_of s) (λ v. contains_of v p))

-- the file's region with the point held
unfoldable pub held_of : List ℕ → Coo3D → Answer View
held_of s p = and_then (read_of s) (λ v. edit_of (edit.hold p) v)

abbrev pub hold_code : List ℕ → Coo3D → ℕ
hold_code s p = code_of (λ (v : View). 0) (held_of s p)

abbrev pub flagged_by : Answer View → List ℕ → List ℕ
flagged_by (answered v) s = with_flag_field s v.flag
flagged_by (refused number values) s = s

-- the file afterwards: its flag field set; a refusal leaves every byte
unfoldable pub held_file : List ℕ → Coo3D → List ℕ
held_file s p = flagged_by (held_of s p) s
