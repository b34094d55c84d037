-- A record's corners are checked, and are 1 to 64: so they are after a build, every edit keeps it so, and then the build afresh answers.
use Prim.Native.Nat.{ℕ}
use native.Mathlib.Omega.{arith}
use mathlib.Core.Path.{◌≡◌}
use mathlib.Core.Bool.{false}
use mathlib.Core.List.{List}
use lib.ListN.{length, length-set}
use Rattle.coo3d.specs.declared.Coo3D.{Coo3D}
use Rattle.domain.proofs.Handed.{handed_again}
use Rattle.domain.proofs.Inside.{Good, points_good}
use Rattle.lists.proofs.All.{all_set, all_ins, all_del}
use Rattle.lists.proofs.Cyclic.{length_ins, length_del}
use Rattle.refusal.specs.Answer.{answered}
use Rattle.region.specs.declared.ContainsSouthPoleMethod.{ContainsSouthPoleMethod}
use Rattle.region.specs.View.{View, made}
use Rattle.region.specs.Region.{build_of}
use Rattle.region.proofs.Builds.{build_answered, built_good}
use Rattle.region.proofs.Flags.{flag_fixed}
use Rattle.region.proofs.Rules.{some}
use Rattle.edits.specs.Edits.{Edit}
use Rattle.edit_theorem.specs.Record.{Plain, region_of, edited, afresh}
use Rattle.edit_theorem.specs.Theorem.{start_of}
use Rattle.edit_theorem.proofs.Legal.{Legal, legal_put, legal_insert, legal_remove, legal_turn, legal_hold, legal_rule}

pub fresh_good : (s : Plain) → Good s.corners → afresh s ≡ answered (region_of s)
unfolding build_of
fresh_good s g = rw (points_good s.corners g, flag_fixed (made s.corners false) s.flag (some g.some) g.few)

-- ---- from a build

pub record Start (points : List Coo3D) (count : ℕ) (m : ContainsSouthPoleMethod) (v : View) : Type 0 where
  pub plain : Plain
  pub starts : start_of points count m ≡ answered plain
  pub good : Good plain.corners
  pub view : v ≡ region_of plain

pub build_start : (points : List Coo3D) (count : ℕ) (m : ContainsSouthPoleMethod) (v : View) → build_of points count m ≡ answered v → Start points count m v
unfolding start_of
build_start points count m v e =
    let b = build_answered points count m v e in
    record { plain = record { corners = b.corners; flag = b.flag }; starts = rw (b.taken, b.ruled); good = built_good b; view = b.view }

-- ---- an edit keeps it

pub good_edited : (e k : Edit) (s : Plain) → Legal (length s.corners) e k → Good s.corners → Good (edited k s).corners
unfolding edited
good_edited e k s (legal_put {i = i} {p = p} {q = q} h d) g =
    let l = length-set s.corners i q in
    record { inside = all_set i q (handed_again 0 p q d) g.inside; some = rw l g.some; few = rw l g.few }
good_edited e k s (legal_insert {i = i} {p = p} {q = q} h m d) g =
    let l = length_ins i q s.corners in
    record { inside = all_ins i q (handed_again 0 p q d) g.inside; some = rw l (omega arith); few = rw l m }
good_edited e k s (legal_remove {i = i} h two) g =
    let l = length_del i s.corners h in
    let f = g.few in
    record { inside = all_del i g.inside; some = omega arith; few = omega arith }
good_edited e k s legal_turn g = g
good_edited e k s (legal_hold d) g = g
good_edited e k s (legal_rule d) g = g
