-- Laws of `read_of`, for both readers.
use Prim.Native.Nat.{ℕ, zero, suc, ◌+◌, ◌-◌, ◌*◌, ◌%◌, ◌<◌}
use native.Mathlib.Omega.{arith}
use mathlib.Core.Path.{◌≡◌, refl, sym, ap, subst, ◌∙◌}
use mathlib.Core.List.{List, [], ◌∷◌}
use lib.ListN.{length, take, get_or}
use lib.Seq.{take_all}
use native.Mathlib.Nat.{le_of_eq}
use Rattle.coo3d.specs.declared.Coo3D.{Coo3D}
use mathlib.Core.Bool.{Bool, true, false, ◌&&◌, false≢true}
use lib.Dec.{ltb}
use lib.Ieee.{Float, nan, inf, fin, binary64, is_nan, of_bits}
use lib.Ieee.Bits.{nan_bits_is, nan_bits_above}
use Rattle.std.specs.declared.result.Result.{Result}
use Rattle.std.specs.Prelude.{⊤}
use Rattle.domain.specs.Checks.{point_at, points_from, points_of}
use Rattle.domain.proofs.Counts.{count_in}
use Rattle.domain.proofs.Inside.{points_many}
use Rattle.domain.proofs.Points.{not_finite}
use Rattle.float.specs.Doubles.{is_finite}
use Rattle.refusal.specs.Answer.{Answer, answered, refused, refuse_if, and_then, verdict, outcome_of}
use Rattle.refusal.specs.declared.Cause.{Cause}
use Rattle.refusal.proofs.Answers.{never, same_answer}
use Rattle.region.specs.View.{View, view_of}
use Rattle.region.specs.declared.Region.{Region}
use Rattle.region.specs.Poles.{fixed_rule}
use Rattle.region.specs.Region.{drawn_of, build_of, Builds}
use Rattle.region.proofs.Builds.{build_first}
use Rattle.region.proofs.Building.{passed_on, finished}
use Rattle.region_file.proofs.Trailers.{accepted}
use Rattle.region_file.specs.declared.Trailer.{Trailer}
use Rattle.region_file.specs.Bytes.{number_at, double_at, corner_at, corners_at}
use Rattle.region_file.specs.File.{file_length, trailer_of, read_of}

pub length_corners : (s : List ℕ) (at n : ℕ) → length (corners_at s at n) ≡ n
unfolding corners_at
length_corners s at zero = refl
length_corners s at (suc n) = ap suc (length_corners s (at + 40) n)

-- the corner of that index among all
pub corner_of : (s : List ℕ) (at n i : ℕ) (d : Coo3D) → i < n → get_or (corners_at s at n) i d ≡ corner_at s (at + 40 * i)
unfolding corners_at
corner_of s at zero i d h = absurd (let z : i < 0 = h in omega arith)
corner_of s at (suc n) zero d h = ap (corner_at s) (omega arith)
corner_of s at (suc n) (suc i) d h = corner_of s (at + 40) n i d (omega (arith, h)) ∙ ap (corner_at s) (omega arith)

-- ---- a corner, number by number

-- a pattern above that of infinity, its sign left out, is a NaN's, and no other
module _ (s : List ℕ) (at bits i : ℕ) (e : bits ≡ number_at 8 s at) where
  nan_above : is_nan (double_at s at) ≡ ltb 0x7FF0_0000_0000_0000 (bits % 0x8000_0000_0000_0000)
  nan_above = rw e (sym (nan_bits_is binary64 (number_at 8 s at)) ∙ nan_bits_above binary64 (number_at 8 s at))

  pub number_is_nan : ltb 0x7FF0_0000_0000_0000 (bits % 0x8000_0000_0000_0000) ≡ true → refused 1 (i ∷ []) ≡ refuse_if (is_nan (double_at s at)) 1 (i ∷ []) (answered (double_at s at))
  number_is_nan h = rw (nan_above, h)

  pub number_is_no_nan : ltb 0x7FF0_0000_0000_0000 (bits % 0x8000_0000_0000_0000) ≡ false → (x : Float) → x ≡ of_bits binary64 bits → answered x ≡ refuse_if (is_nan (double_at s at)) 1 (i ∷ []) (answered (double_at s at))
  number_is_no_nan h x p = rw (nan_above, h) (ap answered (p ∙ ap (of_bits binary64) e))

-- a number that is refused is a NaN, and is refused as its point is
nan_told : (b : Bool) (d : Float) (i k : ℕ) (vs : List ℕ) → refused k vs ≡ refuse_if b 1 (i ∷ []) (answered d) → (b ≡ true) × (◌≡◌ {A = Answer Coo3D} (refused k vs) (refused 1 (i ∷ [])))
nan_told true d i k vs e = (refl, ap (λ (x : Answer Float). and_then x (λ y. refused 0 [])) e)
nan_told false d i k vs e = never e

nan_finite : (d : Float) → is_nan d ≡ true → is_finite d ≡ false
unfolding is_nan
nan_finite nan h = refl
nan_finite (inf s) h = absurd (false≢true h)
nan_finite (fin s m e) h = absurd (false≢true h)

module _ (d : Float) (i k : ℕ) (vs : List ℕ) (e : refused k vs ≡ refuse_if (is_nan d) 1 (i ∷ []) (answered d)) where
  pub number_refused : (p : Coo3D) → (is_finite d ≡ false → (is_finite p.x && is_finite p.y && is_finite p.z && is_finite p.lon && is_finite p.lat) ≡ false) → refused k vs ≡ point_at i p
  number_refused p within = let t = nan_told (is_nan d) d i k vs e in t.1 ∙ not_finite i p (within (nan_finite d t.0))

pub number_taken : (b : Bool) (d x : Float) (i : ℕ) → answered x ≡ refuse_if b 1 (i ∷ []) (answered d) → x ≡ d
number_taken true d x i e = never (sym e)
number_taken false d x i e = same_answer e

-- ---- the file

-- a file whose trailer is taken: what its corners and its flag build
module _ (s : List ℕ) (t : Trailer) (whole : ℕ) (e : answered t ≡ trailer_of s) (w : whole ≡ file_length t.count) where
  pub read_is : build_of (corners_at s (length s - whole) t.count) t.count (fixed_rule t.flag) ≡ read_of s
  unfolding read_of
  read_is = rw (sym e, sym w)

  taken_is : points_of (corners_at s (length s - whole) t.count) t.count ≡ points_from 0 (corners_at s (length s - whole) t.count)
  unfolding points_of
  taken_is =
      let a = accepted s t (sym e) in
      count_in t.count _ (a.some, a.few) ∙ ap (points_from 0) (take_all t.count _ (le_of_eq (length_corners s (length s - whole) t.count)))

  -- a corner is refused
  pub corner_refused : (k : ℕ) (vs : List ℕ) → refused k vs ≡ points_from 0 (corners_at s (length s - whole) t.count) → refused k vs ≡ read_of s
  corner_refused k vs p = passed_on _ t.count (fixed_rule t.flag) k vs (p ∙ sym taken_is) ∙ read_is

  -- all are taken, and what they give is worked out
  pub read_drawn : (r : Region) {r' : Region} {o : Result ⊤ Cause} → outcome_of o (view_of r') ≡ drawn_of (view_of r) → r.count ≡ t.count → r.contains_south_pole ≡ t.flag
      → answered (take t.count r.vertices) ≡ points_from 0 (corners_at s (length s - whole) t.count) → Builds (record { region = r'; outcome = o }) (read_of s)
  read_drawn r told counted flagged p =
      let a = accepted s t (sym e) in
      let len = points_many _ 0 _ (sym p) ∙ length_corners s (length s - whole) t.count in
      subst (Builds _) read_is (finished _ r (p ∙ sym taken_is) len (a.some, a.few) counted flagged told)

pub read_refused : (s : List ℕ) (k : ℕ) (vs : List ℕ) → refused k vs ≡ trailer_of s → refused k vs ≡ read_of s
unfolding read_of
read_refused s k vs e = rw (sym e)

pub read_built : (s : List ℕ) (t : Trailer) (l : List Coo3D) (whole : ℕ) → answered t ≡ trailer_of s → whole ≡ file_length t.count → take t.count l ≡ corners_at s (length s - whole) t.count
    → build_of l t.count (fixed_rule t.flag) ≡ read_of s
read_built s t l whole e w p =
    let n = t.count in
    let cs = corners_at s (length s - whole) n in
    build_first l cs n (fixed_rule t.flag) (p ∙ sym (take_all n cs (le_of_eq (length_corners s (length s - whole) n)))) ∙ read_is s t whole e w

-- the trailer of a file that was read is taken
pub read_taken : (s : List ℕ) (v : View) → read_of s ≡ answered v → verdict (trailer_of s) ≡ answered true
unfolding read_of
read_taken s v = go (trailer_of s)
  where
    go : (x : Answer Trailer) → and_then x (λ t. build_of (corners_at s (length s - file_length t.count) t.count) t.count (fixed_rule t.flag)) ≡ answered v → verdict x ≡ answered true
    go (answered t) e = refl
    go (refused k vs) e = never e
