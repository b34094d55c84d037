-- An edit of a record's region is the region of the edited record.
use mathlib.Core.Path.{◌≡◌, refl}
use mathlib.Core.List.{List}
use lib.ListN.{length}
use Rattle.coo3d.specs.declared.Coo3D.{Coo3D}
use Rattle.coo3d.specs.declared.Vect3.{Vect3}
use Rattle.lists.proofs.Cyclic.{put_one, ins_one, del_one}
use Rattle.region.specs.Edges.{normal_of}
use Rattle.region.specs.View.{View, with_corners, nowhere, normals_of, made}
use Rattle.edits.specs.Edits.{Edit, changed}
use Rattle.edit_theorem.specs.Record.{Plain, region_of, edited}
use Rattle.edit_theorem.proofs.Legal.{Legal, legal_put, legal_insert, legal_remove, legal_turn, legal_hold, legal_rule}

-- a view whose corners changed is the record's region where its normals are those of the new corners
made_of : (v : View) (cs : List Coo3D) (ns : List Vect3) → ns ≡ normals_of cs → with_corners v cs ns ≡ made cs v.flag
made_of v cs ns h = rw h

pub changed_one : (e k : Edit) (s : Plain) → Legal (length s.corners) e k → changed k (region_of s) ≡ region_of (edited k s)
unfolding changed edited normals_of
changed_one e k s (legal_put {i = i} {q = q} h d) = made_of (region_of s) _ _ (put_one nowhere normal_of s.corners i q h)
changed_one e k s (legal_insert {i = i} {q = q} h m d) = made_of (region_of s) _ _ (ins_one nowhere normal_of s.corners i q h)
changed_one e k s (legal_remove {i = i} h two) = made_of (region_of s) _ _ (del_one nowhere normal_of s.corners i h)
changed_one e k s legal_turn = refl
changed_one e k s (legal_hold d) = refl
changed_one e k s (legal_rule d) = refl
