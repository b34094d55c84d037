-- The corners beside a corner, before an edit and after; and what copying a part of an array puts in, or takes out. For lists of any type.
use Prim.Native.Nat.{ℕ, zero, suc, ◌+◌, ◌-◌, ◌≤◌, ◌<◌}
use native.Mathlib.Nat.{le_of_suc-le-suc, not-suc-le-zero}
use native.Mathlib.Numerals.{add-one}
use native.Mathlib.Omega.{arith}
use mathlib.Core.Path.{◌≡◌, refl, sym, ap, ◌∙◌}
use mathlib.Core.Logic.{⊎_elim}
use mathlib.Core.List.{List, [], ◌∷◌, ◌++◌}
use borrow.Author.Tests.{eq-eqb, ne_eqb}
use lib.ListN.{length, take, drop, get_or, set}
use lib.Seq.{take-length, take-take, take-set-lt, length-take-le, paste}
use Rattle.std.proofs.lemmas.List.{get_or-set_other, set-append_left, drop-take, length-drop}
use Rattle.std.proofs.lemmas.List.Edits.{take-paste}
use Rattle.lists.specs.Cyclic.{last_of, ins, del, prev_of, next_of, there_of, before_of}
use Rattle.std.proofs.lemmas.Bool.{cases_eq}
use Rattle.lists.proofs.Shifts.{ins_is, del_is}
use Rattle.lists.proofs.Passing.{stored}
use Rattle.region.proofs.Edges.{last_take}

-- ---- places

pub prev_next : (n i : ℕ) → i < n → prev_of n (next_of n i) ≡ i
unfolding prev_of next_of
prev_next n i h =
    ⊎_elim
    (λ (e : i + 1 ≡ n). rw (eq-eqb (i + 1) n e) (omega (arith, e)))
    (λ (e : i + 1 ≡ n → ⊥). rw (ne_eqb (i + 1) n e, ne_eqb (i + 1) 0 (λ (z : i + 1 ≡ 0). omega (arith, z))) (omega arith))
    (cases_eq (i + 1) n)

pub prev_below : (n i : ℕ) → 0 < n → i ≤ n → prev_of n i < n
unfolding prev_of
prev_below n zero some h = omega arith
prev_below n (suc i) some h = rw (ne_eqb (suc i) 0 (λ (z : suc i ≡ 0). omega (arith, z))) (omega arith)

pub next_below : (n i : ℕ) → i < n → next_of n i < n
unfolding next_of
next_below n i h =
    ⊎_elim
    (λ (e : i + 1 ≡ n). rw (eq-eqb (i + 1) n e) (omega (arith, e)))
    (λ (e : i + 1 ≡ n → ⊥). rw (ne_eqb (i + 1) n e) (omega (arith, h, e)))
    (cases_eq (i + 1) n)

pub there_below : (n i : ℕ) → i < n → 1 < n → there_of n i < n - 1
unfolding there_of
there_below n i h two =
    ⊎_elim
    (λ (e : i + 1 ≡ n). rw (eq-eqb (i + 1) n e) (omega (arith, two)))
    (λ (e : i + 1 ≡ n → ⊥). rw (ne_eqb (i + 1) n e) (omega (arith, h, e)))
    (cases_eq (i + 1) n)

-- ---- the element before

module _ {A : Type 0} (d : A) where
  last_at : (l : List A) → 0 < length l → get_or l (length l - 1) d ≡ last_of d l
  last_at l some =
      let all : length l ≤ length l = omega arith in
      sym (last_take l (length l) d d some all) ∙ ap (last_of d) (take-length l)

  pub ins_here : (l : List A) (i : ℕ) (p : A) → i ≤ length l → get_or (ins i p l) i d ≡ p
  unfolding ins
  ins_here l zero p h = refl
  ins_here [] (suc i) p h = absurd (not-suc-le-zero h)
  ins_here (a ∷ l) (suc i) p h = ins_here l i p (le_of_suc-le-suc h)

  pub ins_front : (l : List A) (i k : ℕ) (p : A) → i ≤ length l → k < i → get_or (ins i p l) k d ≡ get_or l k d
  unfolding ins
  ins_front l zero k p h b = absurd (not-suc-le-zero b)
  ins_front [] (suc i) k p h b = absurd (not-suc-le-zero h)
  ins_front (a ∷ l) (suc i) zero p h b = refl
  ins_front (a ∷ l) (suc i) (suc k) p h b = ins_front l i k p (le_of_suc-le-suc h) (le_of_suc-le-suc b)

  pub del_front : (l : List A) (i k : ℕ) → k < i → get_or (del i l) k d ≡ get_or l k d
  unfolding del
  del_front [] i k b = refl
  del_front (a ∷ l) zero k b = absurd (not-suc-le-zero b)
  del_front (a ∷ l) (suc i) zero b = refl
  del_front (a ∷ l) (suc i) (suc k) b = del_front l i k (le_of_suc-le-suc b)

  -- the element at i is p now
  pub before_put : (l : List A) (i : ℕ) (p : A) → 1 < length l → i < length l → get_or (set l i p) (prev_of (length l) i) d ≡ before_of d l i
  unfolding prev_of
  before_put l zero p two h = get_or-set_other l 0 (length l - 1) p d (λ (z : length l - 1 ≡ 0). omega (arith, z)) ∙ last_at l (omega arith)
  before_put l (suc i) p two h =
      let k : suc i - 1 ≡ i = omega arith in
      rw (ne_eqb (suc i) 0 (λ (z : suc i ≡ 0). omega (arith, z)), k) (get_or-set_other l (suc i) i p d (λ (z : i ≡ suc i). omega (arith, z)))

  -- p stands before element i now
  pub before_ins : (l : List A) (i : ℕ) (p : A) → 0 < length l → i ≤ length l → get_or (ins i p l) (prev_of (length l + 1) i) d ≡ before_of d l i
  unfolding prev_of ins
  before_ins l zero p some h =
      let k : length l + 1 - 1 ≡ suc (length l - 1) = omega arith in
      rw k (last_at l some)
  before_ins l (suc i) p some h =
      let k : suc i - 1 ≡ i = omega arith in
      rw (ne_eqb (suc i) 0 (λ (z : suc i ≡ 0). omega (arith, z)), k) (ins_front l (suc i) i p h (omega arith))

  -- element i is gone
  before_last : (l : List A) (i : ℕ) → 1 < length l → i + 1 ≡ length l → get_or (del i l) (prev_of (length l - 1) (there_of (length l) i)) d ≡ before_of d l i
  unfolding prev_of there_of
  before_last l zero two e = absurd (omega (arith, two, e))
  before_last l (suc i) two e =
      let k : length l - 1 - 1 ≡ i = omega (arith, e) in
      rw (eq-eqb (suc i + 1) (length l) e, k) (del_front l (suc i) i (omega arith))

  before_inner : (l : List A) (i : ℕ) → 1 < length l → i + 1 < length l → (i + 1 ≡ length l → ⊥) → get_or (del i l) (prev_of (length l - 1) (there_of (length l) i)) d ≡ before_of d l i
  unfolding prev_of there_of del last_of
  before_inner [] i two h e = absurd (not-suc-le-zero two)
  before_inner (a ∷ []) i two h e = absurd (omega (arith, two))
  before_inner (a ∷ b ∷ l) zero two h e =
      let k : length (a ∷ b ∷ l) - 1 - 1 ≡ length (b ∷ l) - 1 = omega arith in
      rw (ne_eqb 1 (length (a ∷ b ∷ l)) e, k) (last_at (b ∷ l) (omega arith))
  before_inner (a ∷ b ∷ l) (suc i) two h e =
      let k : suc i - 1 ≡ i = omega arith in
      rw (ne_eqb (suc i + 1) (length (a ∷ b ∷ l)) e, ne_eqb (suc i) 0 (λ (z : suc i ≡ 0). omega (arith, z)), k) (del_front (a ∷ b ∷ l) (suc i) i (omega arith))

  pub before_del : (l : List A) (i : ℕ) → 1 < length l → i < length l → get_or (del i l) (prev_of (length l - 1) (there_of (length l) i)) d ≡ before_of d l i
  before_del l i two h =
      ⊎_elim
      (λ (e : i + 1 ≡ length l). before_last l i two e)
      (λ (e : i + 1 ≡ length l → ⊥). before_inner l i two (omega (arith, h, e)) e)
      (cases_eq (i + 1) (length l))

-- ---- a part copied by one place

module _ {A : Type 0} where
  -- up, and p stored where it began
  pub copied_up : (l : List A) (n i : ℕ) (p : A) → i ≤ n → n < length l → take (n + 1) (set (paste l (i + 1) (drop i l) (n - i)) i p) ≡ ins i p (take n l)
  copied_up l n i p h room =
      let m = n - i in
      let whole : n + 1 ≡ i + 1 + m = omega arith in
      let whole' : n ≡ i + m = omega arith in
      let left : m ≤ length (drop i l) = rw (length-drop i l) (omega arith) in
      let here : i < i + 1 + m = omega arith in
      let front : i < length (take (i + 1) l) = rw (length-take-le (i + 1) l (omega arith)) (omega arith) in
      let kept : take m (drop i l) ≡ drop i (take n l) = sym (drop-take i m l) ∙ ap (λ (k : ℕ). drop i (take k l)) (sym whole') in
      ap (λ (k : ℕ). take k (set (paste l (i + 1) (drop i l) m) i p)) whole
      ∙ take-set-lt (i + 1 + m) (paste l (i + 1) (drop i l) m) i p here
      ∙ ap (λ (x : List A). set x i p) (take-paste l (i + 1) (drop i l) m (omega arith) left)
      ∙ set-append_left (take (i + 1) l) (take m (drop i l)) i p front
      ∙ ap (λ (x : List A). x ++ take m (drop i l)) (sym (take-set-lt (i + 1) l i p (omega arith)))
      ∙ stored l i p (take m (drop i l)) (omega arith)
      ∙ ap (λ (x : List A). take i l ++ (p ∷ x)) kept
      ∙ ap (λ (x : List A). x ++ (p ∷ drop i (take n l))) (sym (take-take i n l h))
      ∙ sym (ins_is i p (take n l))

  -- down, over element i
  pub copied_down : (l : List A) (n i : ℕ) → i < n → n ≤ length l → take (n - 1) (paste l i (drop (i + 1) l) (n - (i + 1))) ≡ del i (take n l)
  copied_down l n i h room =
      let m = n - (i + 1) in
      let whole : n - 1 ≡ i + m = omega arith in
      let whole' : n ≡ suc i + m = omega arith in
      let left : m ≤ length (drop (i + 1) l) = rw (length-drop (i + 1) l) (omega arith) in
      let kept : take m (drop (i + 1) l) ≡ drop (suc i) (take n l) = ap (λ (k : ℕ). take m (drop k l)) (add-one i) ∙ sym (drop-take (suc i) m l) ∙ ap (λ (k : ℕ). drop (suc i) (take k l)) (sym whole') in
      ap (λ (k : ℕ). take k (paste l i (drop (i + 1) l) m)) whole
      ∙ take-paste l i (drop (i + 1) l) m (omega arith) left
      ∙ ap (λ (x : List A). take i l ++ x) kept
      ∙ ap (λ (x : List A). x ++ drop (suc i) (take n l)) (sym (take-take i n l (omega arith)))
      ∙ sym (del_is i (take n l))
