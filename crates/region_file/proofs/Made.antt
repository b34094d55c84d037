-- A region that was read is made: its corners come from bits, so they are doubles.
use Prim.Native.Nat.{ℕ, zero, suc, ◌+◌, ◌-◌}
use mathlib.Core.Path.{◌≡◌, refl}
use mathlib.Core.Bool.{true}
use mathlib.Core.List.{List}
use lib.Ieee.{binary64, fits, of_bits}
use lib.Ieee.Bits.{is_true, of_bits-fits}
use lib.ListN.{length, take}
use lib.Seq.{take_all}
use native.Mathlib.Nat.{le_of_eq}
use Rattle.coo3d.specs.Points.{of_doubles, are_doubles}
use Rattle.refusal.specs.Answer.{Answer, answered, refused, and_then}
use Rattle.refusal.proofs.Answers.{never}
use Rattle.region.specs.View.{View}
use Rattle.region.specs.Poles.{fixed_rule}
use Rattle.region.specs.Region.{build_of}
use Rattle.region.specs.Made.{IsMade}
use Rattle.region.proofs.Made.{build_made}
use Rattle.region_file.specs.declared.Trailer.{Trailer}
use Rattle.region_file.specs.Bytes.{number_at, corner_at, corners_at}
use Rattle.region_file.specs.File.{file_length, trailer_of, read_of}
use Rattle.region_file.proofs.Reading.{length_corners}

double_is : (n : ℕ) → fits binary64 (of_bits binary64 n) ≡ true
double_is n = is_true (fits binary64 (of_bits binary64 n)) (of_bits-fits binary64 n)

corner_doubles : (s : List ℕ) (at : ℕ) → of_doubles (corner_at s at) ≡ true
unfolding corner_at
corner_doubles s at = simp (double_is (number_at 8 s at), double_is (number_at 8 s (at + 8)), double_is (number_at 8 s (at + 16)), double_is (number_at 8 s (at + 24)), double_is (number_at 8 s (at + 32)))

corners_doubles : (s : List ℕ) (at n : ℕ) → are_doubles (corners_at s at n) ≡ true
unfolding corners_at are_doubles
corners_doubles s at zero = refl
corners_doubles s at (suc n) = rw (corner_doubles s at, corners_doubles s (at + 40) n)

module _ (s : List ℕ) (v : View) where
  by_trailer : (x : Answer Trailer) → and_then x (λ t. build_of (corners_at s (length s - file_length t.count) t.count) t.count (fixed_rule t.flag)) ≡ answered v → IsMade v
  by_trailer (answered t) e =
      let n = t.count in
      let at = length s - file_length n in
      let cs = corners_at s at n in
      let all : take n cs ≡ cs = take_all n cs (le_of_eq (length_corners s at n)) in
      build_made cs n (fixed_rule t.flag) v (rw all (corners_doubles s at n)) e
  by_trailer (refused k vs) e = never e

  pub read_made : read_of s ≡ answered v → IsMade v
  unfolding read_of
  read_made e = by_trailer (trailer_of s) e
