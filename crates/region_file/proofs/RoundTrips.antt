-- The two theorems of specs/RoundTrips.antt. Assumes nothing.
use Prim.Native.Nat.{ℕ, zero, suc, ◌+◌, ◌-◌, ◌*◌, ◌^◌, ◌≤◌, ◌<◌}
use native.Mathlib.Omega.{arith}
use native.Mathlib.Nat.{le_of_eq}
use mathlib.Core.Path.{◌≡◌, refl, sym, ap, subst, ◌∙◌}
use mathlib.Core.Bool.{Bool, true, false, cond, ◌&&◌}
use mathlib.Core.List.{List, [], ◌∷◌, ◌++◌, append_assoc}
use lib.Dec.{eqb}
use lib.Ieee.{Float, binary64, fits, of_bits}
use lib.ListN.{length, take, drop, length-append, length-drop, take-append-drop}
use lib.Pow.{are_bytes}
use lib.Seq.{drop-append-add, drop-append_seam, drop-drop, take-add, take_all}
use Rattle.coo3d.specs.declared.Coo3D.{Coo3D}
use Rattle.coo3d.specs.Points.{of_doubles, are_doubles}
use Rattle.domain.proofs.Inside.{Inside, Finite, settled_finite, points_back, back_in, back_same}
use Rattle.float.specs.Doubles.{is_finite}
use Rattle.lists.proofs.All.{more, both}
use Rattle.lists.proofs.Many.{one_more}
use Rattle.refusal.specs.Answer.{Answer, answered, refused, and_then}
use Rattle.refusal.proofs.Answers.{never}
use Rattle.region.specs.View.{View, made}
use Rattle.region.specs.Poles.{fixed_rule}
use Rattle.region.specs.Region.{build_of}
use Rattle.region.proofs.Builds.{build_answered, built_fixed}
use Rattle.region_file.specs.declared.Trailer.{Trailer}
use Rattle.region_file.specs.Bytes.{bytes_of, number_at, double_at, corner_at, corners_at, double_bytes, corner_bytes, corners_bytes}
use Rattle.region_file.specs.File.{file_length, trailer_of, read_of, trailer_bytes, file_of}
use Rattle.region_file.specs.RoundTrips.{ReadWritten, WriteRead}
use Rattle.region_file.proofs.Back.{number_bytes, bytes_at, double_written, double_read}
use Rattle.region_file.proofs.Reading.{length_corners}
use Rattle.region_file.proofs.Trailers.{Accepted, accepted, good}
use Rattle.region_file.proofs.Writing.{length_corner, length_corners_bytes, length_trailer}

-- ---- read what was written

-- a number behind other bytes
behind : (w k : ℕ) (p s : List ℕ) → number_at w (p ++ s) (length p + k) ≡ number_at w s k
unfolding number_at
behind w k p s = rw (drop-append-add p s k)

at_front : (w : ℕ) (p s : List ℕ) → number_at w (p ++ s) (length p) ≡ number_at w s 0
unfolding number_at
at_front w p s = rw (drop-append_seam p s)

corner_of : (c : Coo3D) (x y z lon lat : Float) → x ≡ c.x → y ≡ c.y → z ≡ c.z → lon ≡ c.lon → lat ≡ c.lat → record { x = x; y = y; z = z; lon = lon; lat = lat } ≡ c
corner_of c x y z lon lat a b d e f = rw (a, b, d, e, f)

corner_back : (p : List ℕ) (c : Coo3D) (t : List ℕ) → fits binary64 c.x ≡ true → fits binary64 c.y ≡ true → fits binary64 c.z ≡ true → fits binary64 c.lon ≡ true → fits binary64 c.lat ≡ true
    → corner_at (p ++ (corner_bytes c ++ t)) (length p) ≡ c
unfolding corner_at corner_bytes number_at bytes_of
corner_back p c t a b d e f =
    let s = corner_bytes c ++ t in
    corner_of c _ _ _ _ _
    (ap (of_bits binary64) (at_front 8 p s) ∙ double_written c.x a)
    (ap (of_bits binary64) (behind 8 8 p s) ∙ double_written c.y b)
    (ap (of_bits binary64) (behind 8 16 p s) ∙ double_written c.z d)
    (ap (of_bits binary64) (behind 8 24 p s) ∙ double_written c.lon e)
    (ap (of_bits binary64) (behind 8 32 p s) ∙ double_written c.lat f)

corners_back : (cs : List Coo3D) (p t : List ℕ) → are_doubles cs ≡ true → corners_at (p ++ (corners_bytes cs ++ t)) (length p) (length cs) ≡ cs
unfolding are_doubles corners_at corners_bytes
corners_back [] p t h = refl
corners_back (c ∷ cs) p t h =
    let a = both (of_doubles c) (are_doubles cs) h in
    let b = both (fits binary64 c.x && fits binary64 c.y && fits binary64 c.z && fits binary64 c.lon) (fits binary64 c.lat) a.0 in
    let d = both (fits binary64 c.x && fits binary64 c.y && fits binary64 c.z) (fits binary64 c.lon) b.0 in
    let e = both (fits binary64 c.x && fits binary64 c.y) (fits binary64 c.z) d.0 in
    let f = both (fits binary64 c.x) (fits binary64 c.y) e.0 in
    let rest = corners_bytes cs ++ t in
    let first : corner_bytes c ++ corners_bytes cs ++ t ≡ corner_bytes c ++ rest = append_assoc (corner_bytes c) (corners_bytes cs) t in
    let second : p ++ (corner_bytes c ++ rest) ≡ (p ++ corner_bytes c) ++ rest = sym (append_assoc p (corner_bytes c) rest) in
    let far : length p + 40 ≡ length (p ++ corner_bytes c) = ap (λ (k : ℕ). length p + k) (sym (length_corner c)) ∙ sym (length-append p (corner_bytes c)) in
    let head : corner_at (p ++ (corner_bytes c ++ corners_bytes cs ++ t)) (length p) ≡ c =
    ap (λ (q : List ℕ). corner_at (p ++ q) (length p)) first ∙ corner_back p c rest f.0 f.1 e.1 d.1 b.1
    in
    let tail : corners_at (p ++ (corner_bytes c ++ corners_bytes cs ++ t)) (length p + 40) (length cs) ≡ cs =
    ap (λ (q : List ℕ). corners_at (p ++ q) (length p + 40) (length cs)) first
    ∙ ap (λ (q : List ℕ). corners_at q (length p + 40) (length cs)) second
    ∙ ap (λ (k : ℕ). corners_at ((p ++ corner_bytes c) ++ rest) k (length cs)) far
    ∙ corners_back cs (p ++ corner_bytes c) t a.1
    in
    rw (head, tail)

flag_back : (b : Bool) → eqb (cond b 1 0) 1 ≡ b
flag_back true = refl
flag_back false = refl

trailer_back : (p : List ℕ) (flag : Bool) (n : ℕ) → 0 < n → n ≤ 64 → 40 * n ≤ length p → trailer_of (p ++ trailer_bytes flag n) ≡ answered (record { flag = flag; count = n })
unfolding trailer_bytes number_at bytes_of
trailer_back p flag n some few room =
    let t = trailer_bytes flag n in
    let s = p ++ t in
    let l : length s ≡ length p + 16 = length-append p t ∙ ap (λ (k : ℕ). length p + k) (length_trailer flag n) in
    let at : length s - 16 ≡ length p = omega (arith, l) in
    let long : 16 ≤ length s = omega (arith, l) in
    let whole : file_length n ≤ length s = omega (arith, l, room) in
    let small : cond flag 1 0 < 256 ^ 4 = omega (arith, one_more flag) in
    let edition : 1 ≡ number_at 4 s (length s - 16) = sym (ap (number_at 4 s) at ∙ at_front 4 p t ∙ number_bytes 4 1 (omega arith)) in
    let flagged : cond flag 1 0 ≡ number_at 4 s (length s - 16 + 4) = sym (ap (λ (k : ℕ). number_at 4 s (k + 4)) at ∙ behind 4 4 p t ∙ number_bytes 4 (cond flag 1 0) small) in
    let counted : n ≡ number_at 4 s (length s - 16 + 8) = sym (ap (λ (k : ℕ). number_at 4 s (k + 8)) at ∙ behind 4 8 p t ∙ number_bytes 4 n (omega (arith, few))) in
    let back : file_length n ≡ number_at 4 s (length s - 16 + 12) = sym (ap (λ (k : ℕ). number_at 4 s (k + 12)) at ∙ behind 4 12 p t ∙ number_bytes 4 (file_length n) (omega (arith, few))) in
    sym (good (record { long = long; edition_is = edition; flag_is = flagged; count_is = counted; distance_is = back }) refl (one_more flag) (some, few) refl refl whole)
    ∙ rw (flag_back flag)

pub read_written : ReadWritten
unfolding read_of file_of
read_written front v some few e h =
    let cs = corners_bytes v.corners in
    let t = trailer_bytes v.flag v.count in
    let s = front ++ (cs ++ t) in
    let apart : s ≡ (front ++ cs) ++ t = sym (append_assoc front cs t) in
    let c : length (front ++ cs) ≡ length front + 40 * v.count = length-append front cs ∙ ap (λ (k : ℕ). length front + k) (length_corners_bytes v.corners ∙ ap (λ (k : ℕ). 40 * k) e) in
    let trailer : trailer_of s ≡ answered (record { flag = v.flag; count = v.count }) = ap trailer_of apart ∙ trailer_back (front ++ cs) v.flag v.count some few (omega (arith, c)) in
    let l : length s ≡ length (front ++ cs) + 16 = ap length apart ∙ length-append (front ++ cs) t ∙ ap (λ (k : ℕ). length (front ++ cs) + k) (length_trailer v.flag v.count) in
    let at : length s - file_length v.count ≡ length front = omega (arith, l, c) in
    let corners : corners_at s (length s - file_length v.count) v.count ≡ v.corners =
    ap (λ (k : ℕ). corners_at s k v.count) at ∙ ap (corners_at s (length front)) (sym e) ∙ corners_back v.corners front t h
    in
    rw (trailer, corners)

-- ---- written what was read

module _ (s : List ℕ) (bytes : are_bytes s ≡ true) where
  double_kept : (at k : ℕ) → at + k + 8 ≤ length s → is_finite (double_at s (at + k)) ≡ true → double_bytes (double_at s (at + k)) ≡ take 8 (drop k (drop at s))
  double_kept at k h f = double_read s (at + k) bytes h f ∙ ap (take 8) (sym (drop-drop k at s))

  corner_kept : (at : ℕ) → at + 40 ≤ length s → Finite (corner_at s at) → corner_bytes (corner_at s at) ≡ take 40 (drop at s)
  unfolding corner_at corner_bytes
  corner_kept at h f =
      let l = drop at s in
      rw (double_read s at bytes (omega (arith, h)) f.x, double_kept at 8 (omega (arith, h)) f.y, double_kept at 16 (omega (arith, h)) f.z, double_kept at 24 (omega (arith, h)) f.lon, double_kept at 32 (omega (arith, h)) f.lat)
      (sym (take-add 32 8 l ∙ rw (take-add 24 8 l, take-add 16 8 l, take-add 8 8 l)))

  corners_kept : (n at : ℕ) → at + 40 * n ≤ length s → Inside (corners_at s at n) → corners_bytes (corners_at s at n) ++ drop (at + 40 * n) s ≡ drop at s
  unfolding corners_at corners_bytes
  corners_kept zero at h t = let e : at + 40 * 0 ≡ at = omega arith in rw e
  corners_kept (suc n) at h (more settled t) =
      let e : at + 40 * suc n ≡ at + 40 + 40 * n = omega arith in
      let room : at + 40 + 40 * n ≤ length s = omega (arith, h) in
      let one : at + 40 ≤ length s = omega (arith, h) in
      append_assoc (corner_bytes (corner_at s at)) (corners_bytes (corners_at s (at + 40) n)) (drop (at + 40 * suc n) s)
      ∙ rw (e, corners_kept n (at + 40) room t, corner_kept at one (settled_finite (corner_at s at) settled))
      (ap (λ (r : List ℕ). take 40 (drop at s) ++ r) (sym (drop-drop 40 at s)) ∙ take-append-drop 40 (drop at s))

  field_kept : (at k : ℕ) → at + k + 4 ≤ length s → bytes_of 4 (number_at 4 s (at + k)) ≡ take 4 (drop k (drop at s))
  field_kept at k h = bytes_at s (at + k) bytes 4 h ∙ ap (take 4) (sym (drop-drop k at s))

  trailer_kept : (t : Trailer) → Accepted s t → trailer_bytes t.flag t.count ≡ drop (length s - 16) s
  unfolding trailer_bytes
  trailer_kept t a =
      let at = length s - 16 in
      let long = a.long in
      let l = drop at s in
      let e = number_at 4 s at in
      let f = number_at 4 s (at + 4) in
      let n = number_at 4 s (at + 8) in
      let d = number_at 4 s (at + 12) in
      let flag : cond t.flag 1 0 ≡ f = ap (λ (b : Bool). cond b 1 0) a.flag ∙ one_or_none f a.flag_known in
      let all : take 16 l ≡ l = take_all 16 l (omega (arith, long, length-drop at s)) in
      ap (λ (x : ℕ). joined x (cond t.flag 1 0) t.count (file_length t.count)) (sym a.edition)
      ∙ ap (λ (x : ℕ). joined e x t.count (file_length t.count)) flag
      ∙ ap (joined e f t.count) (sym a.distance)
      ∙ ap (λ (x : ℕ). joined e f x d) a.count
      ∙ rw (bytes_at s at bytes 4 (omega (arith, long)), field_kept at 4 (omega (arith, long)), field_kept at 8 (omega (arith, long)), field_kept at 12 (omega (arith, long)))
      (sym (take-add 12 4 l ∙ rw (take-add 8 4 l, take-add 4 4 l)) ∙ all)
    where
      joined : ℕ → ℕ → ℕ → ℕ → List ℕ
      joined a b c d = bytes_of 4 a ++ bytes_of 4 b ++ bytes_of 4 c ++ bytes_of 4 d

      one_or_none : (n : ℕ) → n ≤ 1 → cond (eqb n 1) 1 0 ≡ n
      one_or_none zero h = refl
      one_or_none (suc zero) h = refl
      one_or_none (suc (suc n)) h = absurd (omega (arith, h))

  module _ (v : View) where
    file_kept : (t : Trailer) → Accepted s t → build_of (corners_at s (length s - file_length t.count) t.count) t.count (fixed_rule t.flag) ≡ answered v
        → file_of v ≡ drop (length s - file_length v.count) s
    unfolding file_of
    file_kept t a e =
        let n = t.count in
        let at = length s - file_length n in
        let cs = corners_at s at n in
        let whole = a.whole in
        let all : take n cs ≡ cs = take_all n cs (le_of_eq (length_corners s at n)) in
        let built = build_answered cs n (fixed_rule t.flag) v e in
        let back = points_back cs n built.corners built.taken in
        let same : built.corners ≡ cs = back_same back ∙ all in
        let view : v ≡ made cs t.flag = built_fixed built ∙ ap (λ (x : List Coo3D). made x t.flag) same in
        let count : length cs ≡ n = length_corners s at n in
        let end : length s - 16 ≡ at + 40 * n = omega (arith, whole) in
        let room : at + 40 * n ≤ length s = omega (arith, whole) in
        rw (view, count, trailer_kept t a, end) (corners_kept n at room (subst Inside same (back_in back)))

    by_trailer : (x : Answer Trailer) → trailer_of s ≡ x → and_then x (λ t. build_of (corners_at s (length s - file_length t.count) t.count) t.count (fixed_rule t.flag)) ≡ answered v
        → file_of v ≡ drop (length s - file_length v.count) s
    by_trailer (answered t) p e = file_kept t (accepted s t p) e
    by_trailer (refused k vs) p e = never e

pub write_read : WriteRead
unfolding read_of
write_read s v bytes e = by_trailer s bytes v (trailer_of s) refl e
