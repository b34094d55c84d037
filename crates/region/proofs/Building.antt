-- Laws for the build, which checks the corners and works out the normals in the region that it makes.
use Prim.Native.Nat.{ℕ, ◌+◌, ◌-◌, ◌≤◌, ◌<◌}
use native.Mathlib.Omega.{arith}
use native.Mathlib.Nat.{le_refl}
use mir.Val.{bool_byte}
use mathlib.Core.Path.{◌≡◌, refl, sym, ap, subst, ◌∙◌}
use mathlib.Core.Bool.{Bool, false}
use mathlib.Core.List.{List, ◌++◌}
use lib.ListN.{length, take, drop, get_or, set, length-set}
use lib.Seq.{length-take-le, get_or-set_other}
use Rattle.std.specs.declared.result.Result.{Result}
use Rattle.std.specs.declared.result.Result.TheVariants.{Ok, Err}
use Rattle.std.specs.Prelude.{⊤}
use Rattle.coo3d.specs.declared.Coo3D.{Coo3D}
use Rattle.coo3d.specs.declared.Vect3.{Vect3}
use Rattle.domain.specs.Checks.{point_at, points_from, points_of, with_count}
use Rattle.domain.proofs.Counts.{count_in, count_refused}
use Rattle.domain.proofs.Inside.{Good}
use Rattle.domain.proofs.Points.{so_far, far_start, far_good, far_bad, far_end}
use Rattle.lists.specs.Cyclic.{along}
use Rattle.refusal.specs.Answer.{Answer, answered, refused, refused_for, outcome_of, and_then}
use Rattle.refusal.specs.declared.Cause.{Cause}
use Rattle.refusal.proofs.Answers.{never}
use Rattle.region.specs.declared.Built.{Built}
use Rattle.region.specs.declared.Region.{Region}
use Rattle.region.specs.declared.ContainsSouthPoleMethod.{ContainsSouthPoleMethod}
use Rattle.region.specs.Edges.{normal_of, crosses_seam}
use Rattle.region.specs.Poles.{rule_flag, fixed_rule}
use Rattle.region.specs.View.{View, view_of, empty, with_flag, seams_of, normals_of, made, nowhere}
use Rattle.region.specs.Region.{rule_at, flag_of, drawn_of, build_of, region_by, Builds}
use Rattle.region.proofs.Answered.{builds_told}
use Rattle.region.proofs.Corners.{normals_start, normals_turn, normals_done}
use Rattle.region.proofs.Seam.{Counting, counting_ends, seams_start, seams_turn}
use Rattle.region.proofs.Rules.{some}
use Rattle.region.proofs.Flags.{flag_fixed, flag_checked, flag_refused, flag_only}
use Rattle.region.proofs.Builds.{BuiltOf, build_answered, built_good, built_fixed}

-- ---- the corners, checked one after the other

pub record Checking (points : List Coo3D) (count : ℕ) (flag : Bool) (r : Region) (i : ℕ) : Type 0 where
  pub corners : length r.vertices ≡ 64
  pub counted : r.count ≡ count
  pub flagged : r.contains_south_pole ≡ flag
  pub rest : (j : ℕ) → i ≤ j → get_or r.vertices j nowhere ≡ get_or points j nowhere
  pub so_far_is : so_far points count i r.vertices ≡ points_from 0 (take count points)

other : {i j : ℕ} → i + 1 ≤ j → j ≡ i → ⊥
other h e = omega (arith, h, e)

later : {i j : ℕ} → i + 1 ≤ j → i ≤ j
later h = omega (arith, h)

pub checking_starts : (points : List Coo3D) (count : ℕ) (flag : Bool) (r : Region) → r.vertices ≡ points → length points ≡ 64 → r.count ≡ count → r.contains_south_pole ≡ flag → Checking points count flag r 0
checking_starts points count flag r v e k f =
    record { corners = ap length v ∙ e; counted = k; flagged = f; rest = λ j h. ap (λ (l : List Coo3D). get_or l j nowhere) v; so_far_is = far_start points count r.vertices }

module _ {points : List Coo3D} {count i : ℕ} {flag : Bool} {r : Region} (inv : Checking points count flag r i) (full : length points ≡ 64) where
  pub checking_good : count ≤ 64 → i < count → (q : Coo3D) → point_at i (get_or r.vertices i nowhere) ≡ answered q
      → Checking points count flag (record { vertices = set r.vertices i q; cross_products = r.cross_products; count = r.count; contains_south_pole = r.contains_south_pole; seam_count = r.seam_count }) (i + 1)
  checking_good few below q e =
      let long : count ≤ length points = omega (arith, few, full) in
      let corners = inv.corners in
      let room : i < length r.vertices = omega (arith, below, few, corners) in
      let at : get_or r.vertices i nowhere ≡ get_or points i nowhere = inv.rest i (le_refl i) in
      record {
        corners = length-set r.vertices i q ∙ inv.corners;
        counted = inv.counted;
        flagged = inv.flagged;
        rest = λ j h. get_or-set_other r.vertices i j q nowhere (other h) ∙ inv.rest j (later h);
        so_far_is = sym (far_good points count i r.vertices nowhere long below q room (ap (point_at i) (sym at) ∙ e)) ∙ inv.so_far_is;
      }

  pub checking_bad : (0 < count) × (count ≤ 64) → i < count → (k : ℕ) (vs : List ℕ) → refused k vs ≡ point_at i (get_or r.vertices i nowhere) → refused k vs ≡ points_of points count
  unfolding points_of
  checking_bad n below k vs e =
      let few = n.1 in
      let long : count ≤ length points = omega (arith, few, full) in
      sym (far_bad points count i r.vertices nowhere long below k vs (e ∙ ap (point_at i) (inv.rest i (le_refl i)))) ∙ inv.so_far_is ∙ sym (count_in count _ n)

  pub checked : (0 < count) × (count ≤ 64) → i ≡ count → answered (take count r.vertices) ≡ points_of points count
  unfolding points_of
  checked n at =
      let few = n.1 in
      let long : count ≤ length points = omega (arith, few, full) in
      sym (far_end points count i r.vertices long at) ∙ inv.so_far_is ∙ sym (count_in count _ n)

-- ---- the normals, worked out one after the other

pub record Working (corners : List Coo3D) (count : ℕ) (flag : Bool) (r : Region) (from : Coo3D) (k : ℕ) : Type 0 where
  pub same : r.vertices ≡ corners
  pub normals : length r.cross_products ≡ 64
  pub counted : r.count ≡ count
  pub flagged : r.contains_south_pole ≡ flag
  pub so_far_is : take k r.cross_products ++ along normal_of from (drop k (take count corners)) ≡ normals_of (take count corners)

pub working_starts : (r : Region) → (0 < r.count) × (r.count ≤ 64) → length r.vertices ≡ 64 → length r.cross_products ≡ 64 → Working r.vertices r.count r.contains_south_pole r (get_or r.vertices (r.count - 1) nowhere) 0
working_starts r n corners normals =
    let few = n.1 in
    let long : r.count ≤ length r.vertices = omega (arith, few, corners) in
    record { same = refl; normals = normals; counted = refl; flagged = refl; so_far_is = normals_start r.vertices r.count nowhere n.0 long }

pub working_turn : {corners : List Coo3D} {count k : ℕ} {flag : Bool} {r : Region} {from : Coo3D} → Working corners count flag r from k → length corners ≡ 64 → count ≤ 64 → k < count
    → (n : Vect3) → n ≡ normal_of from (get_or r.vertices k nowhere)
    → Working corners count flag (record { vertices = r.vertices; cross_products = set r.cross_products k n; count = r.count; contains_south_pole = r.contains_south_pole; seam_count = r.seam_count })
    (get_or r.vertices k nowhere) (k + 1)
working_turn {corners} {count} {k} {flag} {r} {from} inv full few below n e =
    let long : count ≤ length corners = omega (arith, few, full) in
    let normals = inv.normals in
    let room : k < length r.cross_products = omega (arith, below, few, normals) in
    let at : get_or r.vertices k nowhere ≡ get_or corners k nowhere = ap (λ (l : List Coo3D). get_or l k nowhere) inv.same in
    record {
      same = inv.same;
      normals = length-set r.cross_products k n ∙ inv.normals;
      counted = inv.counted;
      flagged = inv.flagged;
      so_far_is = rw (e, at) (sym (normals_turn corners count from r.cross_products k nowhere long below room) ∙ inv.so_far_is);
    }

-- ---- and with them the edges that cross the seam

pub seams_first : (r : Region) → (0 < r.count) × (r.count ≤ 64) → length r.vertices ≡ 64 → Counting (seams_of (take r.count r.vertices)) (take r.count r.vertices) 0 (get_or r.vertices (r.count - 1) nowhere) 0
seams_first r n corners =
    let few = n.1 in
    let long : r.count ≤ length r.vertices = omega (arith, few, corners) in
    seams_start r.vertices r.count long n.0

pub seams_next : {corners : List Coo3D} {count k n total : ℕ} {flag : Bool} {r : Region} {from : Coo3D} → Working corners count flag r from k → Counting total (take count corners) n from k
    → length corners ≡ 64 → count ≤ 64 → k < count → (b : Bool) → b ≡ crosses_seam from.lon (get_or r.vertices k nowhere).lon
    → Counting total (take count corners) (n + bool_byte b) (get_or r.vertices k nowhere) (k + 1)
seams_next {corners} {count} {k} {n} {flag} {r} {from} inv seams full few below b e =
    let long : count ≤ length corners = omega (arith, few, full) in
    let at : get_or r.vertices k nowhere ≡ get_or corners k nowhere = ap (λ (l : List Coo3D). get_or l k nowhere) inv.same in
    rw at (seams_turn corners count long seams below b (e ∙ ap (λ (c : Coo3D). crosses_seam from.lon c.lon) at))

-- ---- the answers

pub passed_on : (l : List Coo3D) (n : ℕ) (rule : ContainsSouthPoleMethod) (k : ℕ) (vs : List ℕ) → refused k vs ≡ points_of l n → refused k vs ≡ build_of l n rule
unfolding build_of
passed_on l n rule k vs e = rw (sym e)

-- points that are refused
pub not_built : (l : List Coo3D) (n : ℕ) (rule : ContainsSouthPoleMethod) (k : ℕ) (vs : List ℕ) (b : Built) → Builds b (refused k vs) → refused k vs ≡ points_of l n → Builds b (build_of l n rule)
not_built l n rule k vs b h e = subst (Builds b) (passed_on l n rule k vs e) h

-- a count that is refused
pub uncounted : (l : List Coo3D) (n : ℕ) {k : ℕ} {vs : List ℕ} → refused k vs ≡ with_count {A = ⊤} n (answered tt) → refused k vs ≡ points_of l n
unfolding points_of
uncounted l n e = count_refused n tt (points_from 0 (take n l)) e

fixed_is : (l : List Coo3D) (n : ℕ) (flag : Bool) (cs : List Coo3D) → answered cs ≡ points_of l n → (length cs ≡ 0 → ⊥) → length cs ≤ 64 → answered (made cs flag) ≡ build_of l n (fixed_rule flag)
unfolding build_of
fixed_is l n flag cs e some few = rw (sym e, flag_fixed (made cs false) flag some few)

-- a region with its seam count
abbrev pub seamed : Region → ℕ → Region
seamed r n = record { vertices = r.vertices; cross_products = r.cross_products; count = r.count; contains_south_pole = r.contains_south_pole; seam_count = n }

-- a region that is empty stays so whatever its corners become
pub still_empty : (r : Region) (cs : List Coo3D) → view_of r ≡ empty false → view_of (record { vertices = cs; cross_products = r.cross_products; count = r.count; contains_south_pole = r.contains_south_pole; seam_count = r.seam_count }) ≡ empty false
still_empty r cs e =
    let n : r.count ≡ 0 = ap (λ (v : View). v.count) e in
    let f : r.contains_south_pole ≡ false = ap (λ (v : View). v.flag) e in
    let m : r.seam_count ≡ 0 = ap (λ (v : View). v.seam_count) e in
    rw (n, f, m)

pub drawn : {corners : List Coo3D} {count k n : ℕ} {flag : Bool} {r : Region} {from : Coo3D} → Working corners count flag r from k → Counting (seams_of (take count corners)) (take count corners) n from k
    → length corners ≡ 64 → count ≤ 64 → k ≡ count → view_of (seamed r n) ≡ made (take count corners) flag
drawn {corners} {count} {k} {n} {flag} {r} {from} second seams full few passed =
    let long : count ≤ length corners = omega (arith, few, full) in
    let normals : take count r.cross_products ≡ normals_of (take count corners) = sym (normals_done corners count from r.cross_products k long passed) ∙ second.so_far_is in
    let len : length (take count corners) ≡ count = length-take-le count corners long in
    let crossings : n ≡ seams_of (take count corners) = counting_ends seams (rw len (omega (arith, passed))) in
    rw (second.counted, second.same, second.flagged, normals, crossings, len)

-- what `draw_edges` answers: for a count that it takes, and for one that it refuses
pub drawn_is : (r : Region) {w : View} → (0 < r.count) × (r.count ≤ 64) → w ≡ made (take r.count r.vertices) r.contains_south_pole → answered w ≡ drawn_of (view_of r)
unfolding drawn_of
drawn_is r n e = ap answered e ∙ sym (count_in r.count _ n)

pub undrawn : (r : Region) {k : ℕ} {vs : List ℕ} → refused k vs ≡ with_count {A = ⊤} r.count (answered tt) → refused k vs ≡ drawn_of (view_of r)
unfolding drawn_of
undrawn r e = count_refused r.count tt _ e

-- corners that were taken, as a region has them, and then what they give is worked out
pub finished : (points : List Coo3D) {count : ℕ} {flag : Bool} (r : Region) {r' : Region} {o : Result ⊤ Cause} → answered (take count r.vertices) ≡ points_of points count → length (take count r.vertices) ≡ count
    → (0 < count) × (count ≤ 64) → r.count ≡ count → r.contains_south_pole ≡ flag → outcome_of o (view_of r') ≡ drawn_of (view_of r) → Builds (record { region = r'; outcome = o }) (build_of points count (fixed_rule flag))
unfolding drawn_of
finished points {count} {flag} r {r'} {o} taken len range counted flagged told =
    let cs = take count r.vertices in
    let built = fixed_is points count flag cs taken (λ (z : length cs ≡ 0). some range.0 (sym len ∙ z)) (rw len range.1) in
    let as_made : outcome_of o (view_of r') ≡ answered (made cs flag) = told ∙ rw (counted, flagged) (count_in count _ range) in
    subst (Builds (record { region = r'; outcome = o })) built (builds_told (record { region = r'; outcome = o }) (made cs flag) as_made)

pub ends : {points : List Coo3D} {count i : ℕ} {flag : Bool} {r : Region} {r' : Region} {o : Result ⊤ Cause} → Checking points count flag r i → length points ≡ 64 → (0 < count) × (count ≤ 64) → i ≡ count
    → outcome_of o (view_of r') ≡ drawn_of (view_of r) → Builds (record { region = r'; outcome = o }) (build_of points count (fixed_rule flag))
ends {points = points} {count = count} {r = r} first full range passed told =
    let few = range.1 in
    let corners = first.corners in
    finished points r (checked first full range passed) (length-take-le count r.vertices (omega (arith, few, corners))) range first.counted first.flagged told

-- ---- by a rule: what was built by a fixed one, with the flag that the rule sets

-- a build that is done answers its view; one that is not, a refusal
pub built_view : (a : Answer View) (b : Built) → Builds b a → b.outcome ≡ Ok tt → a ≡ answered (view_of b.region)
built_view (answered v) b h done = ap answered (sym h.view)
built_view (refused n vs) b h done = never (sym h.outcome ∙ ap (λ (o : Result ⊤ Cause). outcome_of o (region_by (refused n vs))) done)

-- what a fixed rule does not build no rule builds
module _ (l : List Coo3D) (n : ℕ) (flag : Bool) (rule : ContainsSouthPoleMethod) (k : ℕ) (vs : List ℕ) where
  by_flag : (cs : List Coo3D) (y : Answer Bool) → flag_of (made cs false) (fixed_rule flag) ≡ y → and_then y (λ f. answered (made cs f)) ≡ refused k vs
      → and_then (flag_of (made cs false) rule) (λ f. answered (made cs f)) ≡ refused k vs
  by_flag cs (answered f) q e = never (sym e)
  by_flag cs (refused j us) q e = rw (flag_only (made cs false) flag rule j us q) e

  by_points : (x : Answer (List Coo3D)) → and_then x (λ cs. and_then (flag_of (made cs false) (fixed_rule flag)) (λ f. answered (made cs f))) ≡ refused k vs
      → and_then x (λ cs. and_then (flag_of (made cs false) rule) (λ f. answered (made cs f))) ≡ refused k vs
  by_points (answered cs) e = by_flag cs (flag_of (made cs false) (fixed_rule flag)) refl e
  by_points (refused j us) e = e

  unbuilt : build_of l n (fixed_rule flag) ≡ refused k vs → build_of l n rule ≡ refused k vs
  unfolding build_of
  unbuilt e = by_points (points_of l n) e

refusal_of : (a : Answer View) (b : Built) (cause : Cause) → Builds b a → b.outcome ≡ Err cause → a ≡ refused_for cause
refusal_of a b cause h o = sym h.outcome ∙ ap (λ (x : Result ⊤ Cause). outcome_of x (region_by a)) o

pub not_ruled : (l : List Coo3D) (n : ℕ) (flag : Bool) (rule : ContainsSouthPoleMethod) (b : Built) (cause : Cause) → Builds b (build_of l n (fixed_rule flag)) → b.outcome ≡ Err cause → Builds b (build_of l n rule)
not_ruled l n flag rule b cause h o =
    let e = refusal_of (build_of l n (fixed_rule flag)) b cause h o in
    subst (Builds b) (e ∙ sym (unbuilt l n flag rule _ _ e)) h

module _ (l : List Coo3D) (n : ℕ) (rule : ContainsSouthPoleMethod) (r : Region) (e : build_of l n (fixed_rule false) ≡ answered (view_of r)) where
  is : BuiltOf l n (fixed_rule false) (view_of r)
  is = build_answered l n (fixed_rule false) (view_of r) e

  is_made : view_of r ≡ made is.corners false
  is_made = built_fixed is

  good : Good is.corners
  good = built_good is

  counted : r.count ≡ length is.corners
  counted = ap (λ (v : View). v.count) is_made

  pub in_range : (0 < r.count) × (r.count ≤ 64)
  in_range = (rw counted good.some, rw counted good.few)

  built_by : build_of l n rule ≡ and_then (flag_of (made is.corners false) rule) (λ f. answered (made is.corners f))
  unfolding build_of
  built_by = rw is.taken

  pub rule_refused : (b : Built) (k : ℕ) (vs : List ℕ) → Builds b (refused k vs) → refused k vs ≡ rule_at r.count rule → Builds b (build_of l n rule)
  rule_refused b k vs h q =
      let f = flag_refused (made is.corners false) rule (some good.some) good.few k vs (q ∙ ap (λ (c : ℕ). rule_at c rule) counted) in
      subst (Builds b) (sym (built_by ∙ rw (sym f))) h

  pub rule_taken : (k : ContainsSouthPoleMethod) (f : Bool) → answered k ≡ rule_at r.count rule → f ≡ rule_flag k (view_of r) → answered (with_flag (view_of r) f) ≡ build_of l n rule
  rule_taken k f q h =
      let v = made is.corners false in
      let g = flag_checked v rule (some good.some) good.few k (q ∙ ap (λ (c : ℕ). rule_at c rule) counted) in
      let flag : f ≡ rule_flag k v = h ∙ ap (rule_flag k) is_made in
      ap (λ (w : View). answered (with_flag w f)) is_made ∙ ap (λ (x : Bool). answered (made is.corners x)) flag ∙ sym (built_by ∙ rw (sym g))
