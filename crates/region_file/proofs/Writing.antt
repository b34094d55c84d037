-- Laws of the file's bytes, for the writer: lengths, and the corners stored one after the other.
use Prim.Native.Nat.{ℕ, ◌+◌, ◌*◌, ◌≤◌, ◌<◌}
use native.Mathlib.Omega.{arith}
use mathlib.Core.Path.{◌≡◌, refl, sym, ◌∙◌}
use mathlib.Core.Bool.{Bool}
use mathlib.Core.List.{List, [], ◌∷◌, ◌++◌}
use borrow.Author.Tests.{le-ltb, lt-ltb}
use lib.ListN.{length, take, drop, get_or, length-append}
use lib.Seq.{sets, sets-eq}
use Rattle.coo3d.specs.declared.Coo3D.{Coo3D}
use Rattle.domain.proofs.Counts.{count_in}
use Rattle.lists.proofs.Passing.{next_left, none_left}
use Rattle.refusal.specs.Answer.{answered, refused}
use Rattle.region.specs.View.{View}
use Rattle.region_file.specs.Bytes.{bytes_of, corner_bytes, corners_bytes}
use Rattle.region_file.specs.File.{file_length, trailer_bytes, file_of, write_of, output_of}
use Rattle.region_file.proofs.Numbers.{sets_then}

pub length_corner : (p : Coo3D) → length (corner_bytes p) ≡ 40
unfolding corner_bytes bytes_of
length_corner p = refl

pub length_corners_bytes : (cs : List Coo3D) → length (corners_bytes cs) ≡ 40 * length cs
unfolding corners_bytes
length_corners_bytes [] = refl
length_corners_bytes (c ∷ cs) =
    let one : length (corner_bytes c ++ corners_bytes cs) ≡ length (corner_bytes c) + length (corners_bytes cs) = length-append (corner_bytes c) (corners_bytes cs) in
    omega (arith, one, length_corner c, length_corners_bytes cs)

pub length_trailer : (flag : Bool) (n : ℕ) → length (trailer_bytes flag n) ≡ 16
unfolding trailer_bytes bytes_of
length_trailer flag n = refl

pub length_file : (v : View) → length v.corners ≡ v.count → length (file_of v) ≡ file_length v.count
unfolding file_of
length_file v e =
    let one : length (corners_bytes v.corners ++ trailer_bytes v.flag v.count) ≡ length (corners_bytes v.corners) + length (trailer_bytes v.flag v.count) =
    length-append (corners_bytes v.corners) (trailer_bytes v.flag v.count)
    in
    omega (arith, one, length_corners_bytes v.corners, length_trailer v.flag v.count, e)

-- ---- the loop: the corners from i on are still to be stored

module _ (l : List Coo3D) (n : ℕ) (long : n ≤ length l) where
  pub store_turn : (i : ℕ) (d : Coo3D) (out next : List ℕ) → i < n → next ≡ sets out (40 * i) (corner_bytes (get_or l i d))
      → sets out (40 * i) (corners_bytes (drop i (take n l))) ≡ sets next (40 * (i + 1)) (corners_bytes (drop (i + 1) (take n l)))
  unfolding corners_bytes
  store_turn i d out next below e =
      let at : 40 * i + length (corner_bytes (get_or l i d)) ≡ 40 * (i + 1) = omega (arith, length_corner (get_or l i d)) in
      rw (next_left l n i d long below, e) (sym (sets_then (corner_bytes (get_or l i d)) (corners_bytes (drop (i + 1) (take n l))) out (40 * i) (40 * (i + 1)) at))

  pub store_done : (i : ℕ) (out : List ℕ) → n ≤ i → sets out (40 * i) (corners_bytes (drop i (take n l))) ≡ out
  unfolding corners_bytes
  store_done i out passed = rw (none_left l n i long passed)

-- ---- the answers

module _ (v : View) (out : List ℕ) where
  pub write_kept : {k : ℕ} {vs : List ℕ} → refused k vs ≡ write_of v (length out) → out ≡ output_of v out
  unfolding output_of
  write_kept e = rw (sym e)

  module _ (few : (0 < v.count) × (v.count ≤ 64)) where
    pub write_short : (needed : ℕ) → needed ≡ file_length v.count → length out < needed → refused 8 (needed ∷ []) ≡ write_of v (length out)
    unfolding write_of
    write_short needed n s = sym (count_in v.count _ few ∙ rw (sym n) (simp (lt-ltb _ _ s)))

    -- the corners were stored, then the trailer
    pub write_done : (corners after : List ℕ) → file_length v.count ≤ length out → length v.corners ≡ v.count
        → corners ≡ sets out 0 (corners_bytes v.corners) → after ≡ sets corners (40 * v.count) (trailer_bytes v.flag v.count)
        → (answered (file_length v.count) ≡ write_of v (length out)) × (after ≡ output_of v out)
    unfolding write_of output_of file_of
    write_done corners after room e p q =
        let at : 0 + length (corners_bytes v.corners) ≡ 40 * v.count = omega (arith, length_corners_bytes v.corners, e) in
        let f : length (file_of v) ≡ file_length v.count = length_file v e in
        let fits : 0 + length (file_of v) ≤ length out = omega (arith, f, room) in
        let past : 0 + length (file_of v) ≡ file_length v.count = omega (arith, f) in
        let stored : after ≡ file_of v ++ drop (file_length v.count) out =
        q ∙ rw p (sets_then (corners_bytes v.corners) (trailer_bytes v.flag v.count) out 0 (40 * v.count) at)
        ∙ sets-eq (file_of v) out 0 fits ∙ rw past
        in
        let done : answered (file_length v.count) ≡ write_of v (length out) = sym (count_in v.count _ few ∙ simp (le-ltb _ _ room)) in
        (done, stored ∙ rw (sym done))
