-- What is worked out of a cyclic list's neighbours, after a change that works out only what it touches, is what is worked out afresh. Assumes nothing.
use Prim.Native.Nat.{ℕ, zero, suc, ◌+◌, ◌≤◌, ◌<◌}
use native.Mathlib.Nat.{le_of_suc-le-suc, not-suc-le-zero}
use native.Mathlib.Numerals.{add-one}
use native.Mathlib.Omega.{arith}
use mathlib.Core.Path.{◌≡◌, refl, sym, ap, ◌∙◌}
use mathlib.Core.Logic.{⊎_elim}
use mathlib.Core.Bool.{true, false, cond}
use mathlib.Core.List.{List, [], ◌∷◌}
use borrow.Author.Tests.{eq-eqb, ne_eqb}
use lib.Dec.{eqb}
use lib.ListN.{length, get_or, set, length-set}
use lib.Seq.{set_out}
use Rattle.std.proofs.lemmas.Bool.{cases_eq}
use Rattle.lists.specs.Cyclic.{last_of, ins, del, along, next_of, there_of, before_of, put_along, ins_along, del_along}

module _ {A : Type 0} where
  pub length_ins : (i : ℕ) (a : A) (l : List A) → length (ins i a l) ≡ suc (length l)
  unfolding ins
  length_ins zero a l = refl
  length_ins (suc i) a [] = refl
  length_ins (suc i) a (x ∷ l) = ap suc (length_ins i a l)

  pub length_del : (i : ℕ) (l : List A) → i < length l → suc (length (del i l)) ≡ length l
  unfolding del
  length_del i [] h = absurd (not-suc-le-zero h)
  length_del zero (x ∷ l) h = refl
  length_del (suc i) (x ∷ l) h = ap suc (length_del i l (le_of_suc-le-suc h))

  -- the last element after an edit: of the last place, and of any other
  last_set : (l : List A) (f a : A) (i : ℕ) → suc i ≡ length l → last_of f (set l i a) ≡ a
  unfolding last_of
  last_set [] f a i e = absurd (omega arith)
  last_set (x ∷ []) f a zero e = refl
  last_set (x ∷ []) f a (suc i) e = absurd (omega arith)
  last_set (x ∷ y ∷ l) f a zero e = absurd (omega arith)
  last_set (x ∷ y ∷ l) f a (suc i) e = last_set (y ∷ l) x a i (omega arith)

  last_kept : (l : List A) (f a : A) (i : ℕ) → suc i < length l → last_of f (set l i a) ≡ last_of f l
  unfolding last_of
  last_kept [] f a i h = refl
  last_kept (x ∷ []) f a i h = absurd (omega arith)
  last_kept (x ∷ y ∷ l) f a zero h = refl
  last_kept (x ∷ y ∷ l) f a (suc i) h = last_kept (y ∷ l) x a i (omega arith)

  last_ins : (l : List A) (f a : A) → last_of f (ins (length l) a l) ≡ a
  unfolding last_of ins
  last_ins [] f a = refl
  last_ins (x ∷ l) f a = last_ins l x a

  last_ins_kept : (l : List A) (f a : A) (i : ℕ) → i < length l → last_of f (ins i a l) ≡ last_of f l
  unfolding last_of ins
  last_ins_kept [] f a i h = absurd (not-suc-le-zero h)
  last_ins_kept (x ∷ l) f a zero h = refl
  last_ins_kept (x ∷ l) f a (suc i) h = last_ins_kept l x a i (le_of_suc-le-suc h)

  last_del_kept : (l : List A) (f : A) (i : ℕ) → suc i < length l → last_of f (del i l) ≡ last_of f l
  unfolding last_of del
  last_del_kept [] f i h = refl
  last_del_kept (x ∷ []) f i h = absurd (omega arith)
  last_del_kept (x ∷ y ∷ l) f zero h = refl
  last_del_kept (x ∷ y ∷ l) f (suc i) h = last_del_kept (y ∷ l) x i (omega arith)

  -- of two or more, the last taken out: the one before it is the last
  last_del : (l : List A) (f d : A) (i : ℕ) → suc i ≡ length l → last_of f (del i l) ≡ get_or (f ∷ l) i d
  unfolding last_of del
  last_del [] f d i e = absurd (omega arith)
  last_del (x ∷ l) f d zero e = ap (last_of f) (empty l (omega arith))
    where
      empty : (m : List A) → length m ≡ 0 → m ≡ []
      empty [] h = refl
      empty (y ∷ m) h = absurd (omega arith)
  last_del (x ∷ l) f d (suc i) e = last_del l x d i (omega arith)

  -- the last element once one is inserted, or one of several is taken out
  pub last_inserted : (l : List A) (d a : A) (i : ℕ) → i ≤ length l → cond (eqb i (length l)) a (last_of d l) ≡ last_of d (ins i a l)
  last_inserted l d a i h =
      ⊎_elim
      (λ (e : i ≡ length l). rw (eq-eqb i (length l) e) (sym (ap (λ (k : ℕ). last_of d (ins k a l)) e ∙ last_ins l d a)))
      (λ (e : i ≡ length l → ⊥). rw (ne_eqb i (length l) e) (sym (last_ins_kept l d a i (omega arith))))
      (cases_eq i (length l))

  pub last_deleted : (l : List A) (d : A) (i : ℕ) → i < length l → 1 < length l → cond (eqb (i + 1) (length l)) (before_of d l i) (last_of d l) ≡ last_of d (del i l)
  last_deleted l d i h two =
      ⊎_elim
      (λ (e : i + 1 ≡ length l). rw (eq-eqb (i + 1) (length l) e) (before i (omega arith) ∙ sym (last_del l d d i (omega arith))))
      (λ (e : i + 1 ≡ length l → ⊥). rw (ne_eqb (i + 1) (length l) e) (sym (last_del_kept l d i (omega arith))))
      (cases_eq (i + 1) (length l))
    where
      before : (k : ℕ) → 0 < k → before_of d l k ≡ get_or (d ∷ l) k d
      before zero p = absurd (not-suc-le-zero p)
      before (suc k) p = refl

module _ {C N : Type 0} (d : C) (normal : C → C → N) where
  abbrev from : C → List C → List N
  from f cs = along normal f cs

  abbrev afresh : List C → List N
  afresh cs = along normal (last_of d cs) cs

  pub length_from : (f : C) (cs : List C) → length (from f cs) ≡ length cs
  unfolding along
  length_from f [] = refl
  length_from f (c ∷ cs) = ap suc (length_from c cs)

  -- another corner to come from changes edge 0 alone
  from_first : (f g : C) (cs : List C) → from g cs ≡ set (from f cs) 0 (normal g (get_or cs 0 d))
  unfolding along
  from_first f g [] = refl
  from_first f g (c ∷ cs) = refl

  from_put : (f : C) (cs : List C) (i : ℕ) (p : C)
      → from f (set cs i p) ≡ set (set (from f cs) i (normal (get_or (f ∷ cs) i d) p)) (suc i) (normal p (get_or (set cs i p) (suc i) d))
  unfolding along
  from_put f [] i p = refl
  from_put f (c ∷ []) zero p = refl
  from_put f (c ∷ e ∷ cs) zero p = refl
  from_put f (c ∷ cs) (suc i) p = ap (λ (l : List N). normal f c ∷ l) (from_put c cs i p)

  from_ins : (f : C) (cs : List C) (i : ℕ) (p : C) → i ≤ length cs
      → from f (ins i p cs) ≡ set (ins i (normal (get_or (f ∷ cs) i d) p) (from f cs)) (suc i) (normal p (get_or (ins i p cs) (suc i) d))
  unfolding along ins
  from_ins f [] zero p h = refl
  from_ins f (c ∷ cs) zero p h = refl
  from_ins f [] (suc i) p h = absurd (not-suc-le-zero h)
  from_ins f (c ∷ cs) (suc i) p h = ap (λ (l : List N). normal f c ∷ l) (from_ins c cs i p (le_of_suc-le-suc h))

  from_del : (f : C) (cs : List C) (i : ℕ)
      → from f (del i cs) ≡ set (del i (from f cs)) i (normal (get_or (f ∷ cs) i d) (get_or (del i cs) i d))
  unfolding along del
  from_del f [] i = refl
  from_del f (c ∷ []) zero = refl
  from_del f (c ∷ e ∷ cs) zero = refl
  from_del f (c ∷ cs) (suc i) = ap (λ (l : List N). normal f c ∷ l) (from_del c cs i)

  module _ (cs : List C) (i : ℕ) (p : C) where
    abbrev l : C
    l = last_of d cs

    pub put_one : i < length cs → put_along d normal cs i p (afresh cs) ≡ afresh (set cs i p)
    unfolding put_along next_of
    put_one h =
        ⊎_elim
        (λ (e : i + 1 ≡ length cs).
        let a : eqb (i + 1) (length cs) ≡ true = eq-eqb _ _ e in
        let k : last_of d (set cs i p) ≡ p = last_set cs d p i (omega arith) in
        let o : length (set (from l cs) i (normal (get_or (l ∷ cs) i d) p)) ≤ suc i = simp length-set (omega (arith, length_from l cs)) in
        rw (a, k, from_first l p (set cs i p), from_put l cs i p, set_out _ (suc i) _ o))
        (λ (e : i + 1 ≡ length cs → ⊥).
        let a : eqb (i + 1) (length cs) ≡ false = ne_eqb _ _ e in
        let k : last_of d (set cs i p) ≡ l = last_kept cs d p i (omega arith) in
        rw (a, k, add-one) (sym (from_put l cs i p)))
        (cases_eq (i + 1) (length cs))

    pub ins_one : i ≤ length cs → ins_along d normal cs i p (afresh cs) ≡ afresh (ins i p cs)
    unfolding ins_along next_of
    ins_one h =
        ⊎_elim
        (λ (e : i + 1 ≡ length cs + 1).
        let a : eqb (i + 1) (length cs + 1) ≡ true = eq-eqb _ _ e in
        let i-is : i ≡ length cs = omega arith in
        let k : last_of d (ins i p cs) ≡ p = rw i-is (last_ins cs d p) in
        let o : length (ins i (normal (get_or (l ∷ cs) i d) p) (from l cs)) ≤ suc i = simp length_ins (omega (arith, length_from l cs)) in
        rw (a, k, from_first l p (ins i p cs), from_ins l cs i p h, set_out _ (suc i) _ o))
        (λ (e : i + 1 ≡ length cs + 1 → ⊥).
        let a : eqb (i + 1) (length cs + 1) ≡ false = ne_eqb _ _ e in
        let k : last_of d (ins i p cs) ≡ l = last_ins_kept cs d p i (omega arith) in
        rw (a, k, add-one i) (sym (from_ins l cs i p h)))
        (cases_eq (i + 1) (length cs + 1))

  -- the last of several corners taken out: the corner before it is the last. Of one corner nothing is left
  others : (cs : List C) (i : ℕ) (m : C) → suc i ≡ length cs
      → set (from m (del i cs)) 0 (normal (last_of d (del i cs)) (get_or (del i cs) 0 d)) ≡ set (from m (del i cs)) 0 (normal (get_or (m ∷ cs) i d) (get_or (del i cs) 0 d))
  unfolding along last_of del
  others [] i m e = absurd (omega arith)
  others (c ∷ []) zero m e = refl
  others (c ∷ x ∷ cs) zero m e = absurd (omega arith)
  others (c ∷ cs) (suc i) m e = rw (last_del cs c d i (omega arith))

  module _ (cs : List C) (i : ℕ) where
    abbrev m : C
    m = last_of d cs

    pub del_one : i < length cs → del_along d normal cs i (afresh cs) ≡ afresh (del i cs)
    unfolding del_along there_of
    del_one h =
        ⊎_elim
        (λ (e : i + 1 ≡ length cs).
        let a : eqb (i + 1) (length cs) ≡ true = eq-eqb _ _ e in
        let s : suc i ≡ length cs = omega arith in
        let o : length (del i (from m cs)) ≤ i = omega (arith, length_from m cs, length_del i (from m cs) (omega (arith, length_from m cs))) in
        rw (a, from_first m (last_of d (del i cs)) (del i cs), others cs i m s, from_del m cs i, set_out _ i _ o))
        (λ (e : i + 1 ≡ length cs → ⊥).
        let a : eqb (i + 1) (length cs) ≡ false = ne_eqb _ _ e in
        let k : last_of d (del i cs) ≡ m = last_del_kept cs d i (omega arith) in
        rw (a, k) (sym (from_del m cs i)))
        (cases_eq (i + 1) (length cs))
