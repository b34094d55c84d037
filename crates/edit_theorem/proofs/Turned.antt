-- A put, an insert or a remove turns containment over exactly by the edges that it takes out and brings in.
use Prim.Native.Nat.{ℕ, zero, suc, ◌-◌, ◌≤◌, ◌<◌}
use native.Mathlib.Nat.{not-suc-le-zero}
use native.Mathlib.Omega.{arith}
use mathlib.Core.Path.{◌≡◌, sym, ◌∙◌}
use mathlib.Core.Logic.{⊎_elim}
use mathlib.Core.Bool.{Bool, true, false}
use mathlib.Core.List.{List, [], ◌∷◌, ◌++◌}
use borrow.Author.Tests.{ne_eqb}
use lib.Dec.{eqb}
use lib.ListN.{length, get_or, set, length-set}
use lib.Seq.{get_or-set_same, get_or-set_other}
use Rattle.std.proofs.lemmas.Bool.{cases_eq}
use Rattle.coo3d.specs.declared.Coo3D.{Coo3D}
use Rattle.lists.specs.Counts.{exactly_one, odd_many}
use Rattle.lists.specs.Cyclic.{last_of, ins, del, next_of, before_of}
use Rattle.lists.proofs.Odd.{odd, on_one_side}
use Rattle.region.specs.Edges.{edge, is_counted}
use Rattle.region.specs.View.{nowhere, odd_at, contained, made}
use Rattle.region.proofs.Drawn.{odd_drawn}
use Rattle.edits.specs.Edits.{Edit, put, insert, remove}
use Rattle.edit_theorem.specs.Record.{Plain, region_of, edited, moves_corner, touching, taken_out, brought_in}
use Rattle.edit_theorem.proofs.Legal.{Legal, legal_put, legal_insert, legal_remove, legal_turn, legal_hold, legal_rule}
use Rattle.edit_theorem.proofs.Parity.{marks, last_at, next_other, parity_put, parity_alone, parity_ins, parity_del}

-- the corner before i stays where i is put, unless it is i itself
before_put : {C : Type 0} (d : C) (cs : List C) (i : ℕ) (p : C) → 1 < length cs → before_of d (set cs i p) i ≡ before_of d cs i
before_put d cs zero p two =
    let j = length cs - 1 in
    let a : last_of d (set cs 0 p) ≡ get_or (set cs 0 p) j d = last_at d (set cs 0 p) d j (rw length-set (omega arith)) in
    let ne : j ≡ 0 → ⊥ = λ (z : j ≡ 0). omega arith in
    a ∙ get_or-set_other cs 0 j p d ne ∙ sym (last_at d cs d j (omega arith))
before_put d cs (suc i) p two = get_or-set_other cs (suc i) i p d (λ (z : i ≡ suc i). omega arith)

module _ (x : Coo3D) where
  abbrev hit : Coo3D → Coo3D → Bool
  hit a b = is_counted x (edge a b)

  abbrev odd_in : List Coo3D → Bool
  odd_in cs = odd (marks nowhere hit cs)

  odd_made : (cs : List Coo3D) (f : Bool) → odd_at x (made cs f) ≡ odd_in cs
  unfolding odd_at
  odd_made cs f = odd_drawn (is_counted x) cs f

  contained_turns : (cs now : List Coo3D) (f : Bool) → exactly_one (contained x (made now f)) (contained x (made cs f)) ≡ exactly_one (odd_in now) (odd_in cs)
  unfolding contained
  contained_turns cs now f = rw (odd_made cs f, odd_made now f) (on_one_side f (odd_in now) (odd_in cs))

  put_alone : (cs : List Coo3D) (i : ℕ) (p : Coo3D) → i < length cs → length cs ≡ 1
      → exactly_one (odd_in (set cs i p)) (odd_in cs) ≡ odd_many (is_counted x) (touching cs i ++ touching (set cs i p) i)
  unfolding odd_many
  put_alone [] i p h e = absurd (not-suc-le-zero h)
  put_alone (c ∷ []) zero p h e = parity_alone nowhere hit c p
  put_alone (c ∷ []) (suc i) p h e = absurd (omega arith)
  put_alone (c ∷ b ∷ cs) i p h e = absurd (omega arith)

  module _ (cs : List Coo3D) (i : ℕ) where
    put_several : (p : Coo3D) → i < length cs → (length cs ≡ 1 → ⊥)
        → exactly_one (odd_in (set cs i p)) (odd_in cs) ≡ odd_many (is_counted x) (touching cs i ++ touching (set cs i p) i)
    unfolding odd_many
    put_several p h ne =
        let two : 1 < length cs = omega arith in
        let j = next_of (length cs) i in
        let t : eqb (length cs) 1 ≡ false = ne_eqb _ _ ne in
        rw (length-set cs i p, t, before_put nowhere cs i p two, get_or-set_same cs i p nowhere h, get_or-set_other cs i j p nowhere (next_other (length cs) i h two)) (parity_put nowhere hit cs i p h two)

    put_turns : (p : Coo3D) → i < length cs → exactly_one (odd_in (set cs i p)) (odd_in cs) ≡ odd_many (is_counted x) (taken_out (put i p) cs ++ brought_in (put i p) cs)
    unfolding taken_out brought_in
    put_turns p h = ⊎_elim (put_alone cs i p h) (put_several p h) (cases_eq (length cs) 1)

    ins_turns : (p : Coo3D) → i ≤ length cs → 0 < length cs → exactly_one (odd_in (ins i p cs)) (odd_in cs) ≡ odd_many (is_counted x) (taken_out (insert i p) cs ++ brought_in (insert i p) cs)
    unfolding taken_out brought_in odd_many
    ins_turns p h some = parity_ins nowhere hit cs i p h some

    del_turns : i < length cs → 1 < length cs → exactly_one (odd_in (del i cs)) (odd_in cs) ≡ odd_many (is_counted x) (taken_out (remove i) cs ++ brought_in (remove i) cs)
    unfolding taken_out brought_in odd_many
    del_turns h two = parity_del nowhere hit cs i h two

  never_moves : {B : Type 0} → false ≡ true → B
  never_moves e = absurd (let z : ◌≡◌ {A = ℕ} 0 1 = cc e in omega arith)

  pub turned : (e k : Edit) (s : Plain) → Legal (length s.corners) e k → 0 < length s.corners → moves_corner k ≡ true
      → exactly_one (contained x (region_of (edited k s))) (contained x (region_of s)) ≡ odd_many (is_counted x) (taken_out k s.corners ++ brought_in k s.corners)
  unfolding edited
  turned e k s (legal_put {i = i} {q = q} h d) some m = contained_turns s.corners (set s.corners i q) s.flag ∙ put_turns s.corners i q h
  turned e k s (legal_insert {i = i} {q = q} h l d) some m = contained_turns s.corners (ins i q s.corners) s.flag ∙ ins_turns s.corners i q h some
  turned e k s (legal_remove {i = i} h two) some m = contained_turns s.corners (del i s.corners) s.flag ∙ del_turns s.corners i h two
  turned e k s legal_turn some m = never_moves m
  turned e k s (legal_hold d) some m = never_moves m
  turned e k s (legal_rule d) some m = never_moves m
