-- The region file read back, and written back. Bytes are numbers below 256, and a corner's five numbers doubles, as the code's types have them.
use Rattle.std.specs.Prelude.{ℕ, ◌-◌, ◌≤◌, ◌<◌, ◌≡◌, true, List, ◌++◌, length, drop}
use Rattle.std.proofs.Math.Pow.{are_bytes}
use Rattle.coo3d.specs.Points.{are_doubles}
use Rattle.refusal.specs.Answer.{answered}
use Rattle.region.specs.View.{View}
use Rattle.region.specs.Poles.{fixed_rule}
use Rattle.region.specs.Region.{build_of}
use Rattle.region_file.specs.File.{file_length, file_of, read_of}

-- reading what was written, whatever bytes stand in front, gives the region built afresh from its corners and flag
abbrev pub ReadWritten : Type 0
ReadWritten =
    (front : List ℕ) (v : View) → 0 < v.count → v.count ≤ 64 → length v.corners ≡ v.count → are_doubles v.corners ≡ true
    → read_of (front ++ file_of v) ≡ build_of v.corners v.count (fixed_rule v.flag)

-- writing what was read gives the file's own bytes, without those in front
abbrev pub WriteRead : Type 0
WriteRead = (s : List ℕ) (v : View) → are_bytes s ≡ true → read_of s ≡ answered v → file_of v ≡ drop (length s - file_length v.count) s
