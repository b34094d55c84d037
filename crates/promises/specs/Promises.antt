-- What is promised beyond the contracts of the single calls: a reviewer's first page. Each field is a theorem, spelled out; the definitions that it
-- names stand in the crates' specs/. Every theorem joins here, with a wrong edit of its line in must-fail/.
use Rattle.std.specs.Prelude.{ℕ, ◌+◌, ◌-◌, ◌*◌, ◌^◌, ◌≤◌, ◌<◌, ◌≡◌, true, List, ◌++◌, T, Float, length, take, drop, Ok}
use Rattle.std.specs.Float.{binary64}
use Rattle.std.specs.Float.Ieee.{fits}
use Rattle.std.specs.Float.Ieee.Positive.{positive}
use Rattle.std.proofs.Math.Pow.{are_bytes}
use Rattle.coo3d.specs.declared.Coo3D.{Coo3D}
use Rattle.coo3d.specs.declared.UnitVect3.{UnitVect3}
use Rattle.coo3d.specs.Points.{are_doubles}
use Rattle.cost.specs.declared.CostliestOutline.{CostliestOutline}
use Rattle.cost.specs.Outline.{Outlines}
use Rattle.costliest.specs.Costliest.{AtMost, OddAtMost, Costliest}
use Rattle.edit_theorem.specs.Doubles.{edits_of_doubles}
use Rattle.edit_theorem.specs.Record.{Plain}
use Rattle.edit_theorem.specs.Theorem.{Run, Holds, start_of}
use Rattle.edits.specs.Edits.{Edit}
use Rattle.great_circles.specs.Queries.{arc_first_of, arc_all_of}
use Rattle.making.specs.Made.{Made}
use Rattle.marked_cases.specs.Cases.{corners, MarkedCases}
use Rattle.poles.specs.Poles.{Poles}
use Rattle.refusal.specs.Answer.{answered}
use Rattle.region.specs.declared.Built.{Built}
use Rattle.region.specs.declared.ContainsSouthPoleMethod.{ContainsSouthPoleMethod}
use Rattle.region.specs.declared.ContainsSouthPoleMethod.TheVariants.{Default}
use Rattle.region.specs.declared.Region.{Region}
use Rattle.region.specs.Made.{IsMade}
use Rattle.region.specs.Poles.{fixed_rule}
use Rattle.region.specs.Region.{build_of, Builds}
use Rattle.region.specs.View.{View, view_of, seams_of}
use Rattle.region_file.specs.File.{file_length, file_of, read_of}
use Rattle.root.specs.Root.{sqrt_of}
use Rattle.root.specs.Rounded.{Rounded}
use Rattle.root.specs.Whole.{IsRoot, root_in, next_digit}
use Rattle.root.specs.WholeRoot.{WholeRooted}

pub record Promises : Type 0 where
  -- The root of every positive finite double is rounded as document 01 asks, and no other double is.
  pub sqrt_rounded : (a : Float) → T (fits binary64 a) → T (positive a) → Rounded a (sqrt_of a)
  pub one_rounded : (a r t : Float) → T (fits binary64 r) → T (fits binary64 t) → Rounded a r → Rounded a t → r ≡ t
  -- A whole root grows by a binary digit as its number grows by a digit in base four, so there is one for numbers of every width: the float root rests on it at 54 digits,
  -- the whole root at 32.
  pub root_grows : (n s r d : ℕ) → d < 4 → IsRoot n s r → IsRoot (4 * n + d) (2 * s + next_digit s (4 * r + d)) (4 * r + d - (4 * s + 1) * next_digit s (4 * r + d))
  pub root_every_width : (w n : ℕ) → n < 4 ^ w → IsRoot n (root_in w n) (n - root_in w n * root_in w n)
  -- The whole root of every unsigned 64-bit number, in `WholeRooted`: its square plus the remainder is the number, the remainder is at most twice the root, no other pair has both properties, and no
  -- larger number has its square within the number.
  pub whole_rooted : (n : ℕ) → n < 2 ^ 64 → WholeRooted n
  -- Where no call is refused, an arc's first answer is the head of its list, or none.
  pub first_is_head : (v : View) (a b : Coo3D) (first all : List UnitVect3) → arc_first_of v a b ≡ answered first → arc_all_of v a b ≡ answered all → first ≡ take 1 all
  -- Reading what was written, whatever bytes stand in front, gives the region built afresh from its corners and flag.
  pub read_written :
      (front : List ℕ) (v : View) → 0 < v.count → v.count ≤ 64 → length v.corners ≡ v.count → are_doubles v.corners ≡ true
      → read_of (front ++ file_of v) ≡ build_of v.corners v.count (fixed_rule v.flag)
  -- Writing what was read gives the file's own bytes, without those in front.
  pub write_read : (s : List ℕ) (v : View) → are_bytes s ≡ true → read_of s ≡ answered v → file_of v ≡ drop (length s - file_length v.count) s
  -- The two readers, the one that copies all corners out and the one that builds straight from the bytes, answer alike whatever the bytes: one outcome, and one region to every call.
  pub readers_agree :
      (s : List ℕ) (copied straight : Built) → Builds copied (read_of s) → Builds straight (read_of s)
      → (copied.outcome ≡ straight.outcome) × (view_of copied.region ≡ view_of straight.region)
  -- For the region of any build that was not refused, and every list of edits, refused ones included: `Holds` says what holds along it.
  pub edit_theorem :
      (points : List Coo3D) (count : ℕ) (rule : ContainsSouthPoleMethod) (b : Built) → Builds b (build_of points count rule) → b.outcome ≡ Ok tt
      → (es : List Edit) (last : Region) (run : Run b.region es last)
      → (s : Plain) × ((start_of points count rule ≡ answered s) × Holds b.region last es s run)
  -- A region is made that was built of points that are doubles, or read, and every one along a list of edits whose points are doubles.
  pub build_made : (points : List Coo3D) (count : ℕ) (rule : ContainsSouthPoleMethod) (v : View) → are_doubles (take count points) ≡ true → build_of points count rule ≡ answered v → IsMade v
  pub read_made : (s : List ℕ) (v : View) → read_of s ≡ answered v → IsMade v
  pub edits_made : (r last : Region) (es : List Edit) → IsMade (view_of r) → edits_of_doubles es ≡ true → Run r es last → IsMade (view_of last)
  -- In every made region the stored seam count is that of its corners.
  pub seams_made : (v : View) → IsMade v → v.seam_count ≡ seams_of v.corners
  -- The poles explained by the seam count, in every region that was built, read, or edited in any list: `Poles` has the theorems. At every legal point the
  -- number of edges in range is odd exactly when the seam count is; (0, 0, −1) is contained exactly when the flag is set; and (0, 0, 1), where every stored normal
  -- has z above 0, exactly when exactly one of these holds: the flag is set; the seam count is odd. Edges along a meridian may have any normal.
  pub poles : (r : Region) → Made r → Poles r
  -- Of every region value and at every point, no more edges are in range than the count; in a made region of an odd number of corners, whatever its seam count, at most
  -- one fewer. The call that counts them is `contains_with_range_count`.
  pub in_range_at_most : (r : Region) → AtMost r
  pub in_range_odd_at_most : (r : Region) → Made r → OddAtMost r
  -- The outline of `costliest_outline`, for every n from 1 to 64: it is made, of n corners, its seam count is 0, and at its point n edges are in range where n is even
  -- and n − 1 where it is odd. No made region of n corners has more in range anywhere.
  pub costliest : (n : ℕ) → 0 < n → n ≤ 64 → (o : CostliestOutline) → Outlines o n → Costliest n o
  -- Document 01's marked cases hold of S.
  pub marked_cases : MarkedCases (build_of corners 4 Default)
