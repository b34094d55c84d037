-- The parity of what is counted along a cyclic list, after an element is put elsewhere, put in or taken out.
use Prim.Native.Nat.{ℕ, zero, suc, ◌+◌, ◌≤◌, ◌<◌}
use native.Mathlib.Nat.{le_of_suc-le-suc, not-suc-le-zero}
use native.Mathlib.Numerals.{add-one}
use native.Mathlib.Omega.{arith}
use mathlib.Core.Path.{◌≡◌, refl, sym, ap, ◌∙◌}
use mathlib.Core.Logic.{⊎_elim}
use mathlib.Core.Bool.{Bool, true, false, cond}
use mathlib.Core.List.{List, [], ◌∷◌}
use borrow.Author.Tests.{eq-eqb, ne_eqb}
use lib.Dec.{eqb}
use lib.ListN.{length, get_or, set, length-set}
use lib.Seq.{get_or-set_other}
use Rattle.std.proofs.lemmas.Bool.{cases_eq}
use Rattle.lists.specs.Counts.{exactly_one, odd_many}
use Rattle.lists.specs.Cyclic.{last_of, ins, del, along, next_of, there_of, before_of, put_along, ins_along, del_along}
use Rattle.lists.proofs.Cyclic.{length_from, length_ins, length_del, put_one, ins_one, del_one}
use Rattle.edits.proofs.Neighbours.{next_below, there_below, ins_front, del_front}
use Rattle.lists.proofs.Odd.{odd, xor, by_way, on_one_side, one_left, one_false}

cancel : (b x o : Bool) → exactly_one (exactly_one b o) (exactly_one x o) ≡ exactly_one x b
cancel b x o = simp xor

four : (a b c e : Bool) → exactly_one (exactly_one b e) (exactly_one a c) ≡ odd (a ∷ b ∷ c ∷ e ∷ [])
unfolding odd_many
four a b c e = simp xor

-- a mark set anew turns the parity by the old mark and the new
pub odd_set : (l : List Bool) (i : ℕ) (b : Bool) → i < length l → exactly_one (odd (set l i b)) (odd l) ≡ exactly_one (get_or l i false) b
unfolding odd_many
odd_set [] i b h = absurd (not-suc-le-zero h)
odd_set (x ∷ l) zero b h = cancel b x (odd l)
odd_set (x ∷ l) (suc i) b h = on_one_side x (odd (set l i b)) (odd l) ∙ odd_set l i b (le_of_suc-le-suc h)

-- two marks, at different places
odd_two : (l : List Bool) (i j : ℕ) (a b : Bool) → i < length l → j < length l → (j ≡ i → ⊥)
    → exactly_one (odd (set (set l i a) j b)) (odd l) ≡ odd (get_or l i false ∷ get_or l j false ∷ a ∷ b ∷ [])
odd_two l i j a b hi hj ne =
    let hj' : j < length (set l i a) = rw length-set hj in
    by_way (odd (set (set l i a) j b)) (odd (set l i a)) (odd l)
    ∙ rw (odd_set (set l i a) j b hj', odd_set l i a hi, get_or-set_other l i j a false ne) (four (get_or l i false) (get_or l j false) a b)

pub next_other : (n i : ℕ) → i < n → 1 < n → next_of n i ≡ i → ⊥
unfolding next_of
next_other n i h two q =
    ⊎_elim
    (λ (e : i + 1 ≡ n). let a : eqb (i + 1) n ≡ true = eq-eqb _ _ e in let z : 0 ≡ i = rw a at q in omega arith)
    (λ (e : i + 1 ≡ n → ⊥). let a : eqb (i + 1) n ≡ false = ne_eqb _ _ e in let z : i + 1 ≡ i = rw a at q in omega arith)
    (cases_eq (i + 1) n)

module _ {C : Type 0} (d : C) where
  pub last_at : (cs : List C) (f : C) (i : ℕ) → suc i ≡ length cs → last_of f cs ≡ get_or cs i d
  unfolding last_of
  last_at [] f i e = absurd (omega arith)
  last_at (c ∷ []) f zero e = refl
  last_at (c ∷ []) f (suc i) e = absurd (omega arith)
  last_at (c ∷ x ∷ cs) f zero e = absurd (omega arith)
  last_at (c ∷ x ∷ cs) f (suc i) e = last_at (x ∷ cs) c i (omega arith)

  -- the edge after corner i comes from corner i
  pub before_next : (cs : List C) (i : ℕ) → i < length cs → get_or (last_of d cs ∷ cs) (next_of (length cs) i) d ≡ get_or cs i d
  unfolding next_of
  before_next cs i h =
      ⊎_elim
      (λ (e : i + 1 ≡ length cs). let a : eqb (i + 1) (length cs) ≡ true = eq-eqb _ _ e in rw a (last_at cs d i (omega arith)))
      (λ (e : i + 1 ≡ length cs → ⊥). let a : eqb (i + 1) (length cs) ≡ false = ne_eqb _ _ e in rw (a, add-one))
      (cases_eq (i + 1) (length cs))

  module _ (hit : C → C → Bool) where
    pub from_at : (f : C) (cs : List C) (k : ℕ) → k < length cs → get_or (along hit f cs) k false ≡ hit (get_or (f ∷ cs) k d) (get_or cs k d)
    unfolding along
    from_at f [] k h = absurd (not-suc-le-zero h)
    from_at f (c ∷ cs) zero h = refl
    from_at f (c ∷ cs) (suc k) h = from_at c cs k (le_of_suc-le-suc h)

    -- the marks of the edges, in order
    abbrev pub marks : List C → List Bool
    marks cs = along hit (last_of d cs) cs

    module _ (cs : List C) (i : ℕ) (p : C) (h : i < length cs) where
      abbrev j : ℕ
      j = next_of (length cs) i

      pub parity_put : 1 < length cs
          → exactly_one (odd (marks (set cs i p))) (odd (marks cs))
          ≡ odd (hit (before_of d cs i) (get_or cs i d) ∷ hit (get_or cs i d) (get_or cs j d) ∷ hit (before_of d cs i) p ∷ hit p (get_or cs j d) ∷ [])
      unfolding put_along
      parity_put two =
          let l = last_of d cs in
          let ne : j ≡ i → ⊥ = next_other (length cs) i h two in
          let hj : j < length cs = next_below (length cs) i h in
          let hi' : i < length (marks cs) = rw (length_from d hit l cs) h in
          let hj' : j < length (marks cs) = rw (length_from d hit l cs) hj in
          ap (λ (ms : List Bool). exactly_one (odd ms) (odd (marks cs))) (sym (put_one d hit cs i p h))
          ∙ odd_two (marks cs) i j _ _ hi' hj' ne
          ∙ rw (from_at l cs i h, from_at l cs j hj, before_next cs i h, get_or-set_other cs i j p d ne)

    -- of one corner alone the one edge is taken out and another brought in
    pub parity_alone : (c p : C) → exactly_one (odd (marks (set (c ∷ []) 0 p))) (odd (marks (c ∷ []))) ≡ odd (hit c c ∷ hit p p ∷ [])
    unfolding along last_of odd_many
    parity_alone c p = cancel (hit p p) (hit c c) false ∙ ap (exactly_one (hit c c)) (sym (one_false (hit p p)))

three : (m a b o : Bool) → exactly_one (exactly_one m b) (exactly_one (exactly_one a o) o) ≡ odd (m ∷ a ∷ b ∷ [])
unfolding odd_many
three m a b o = simp xor

three' : (m n b o : Bool) → exactly_one (exactly_one n b) (exactly_one o (exactly_one m o)) ≡ odd (m ∷ n ∷ b ∷ [])
unfolding odd_many
three' m n b o = simp xor

odd_ins : (l : List Bool) (i : ℕ) (b : Bool) → odd (ins i b l) ≡ exactly_one b (odd l)
unfolding odd_many ins
odd_ins l zero b = refl
odd_ins [] (suc i) b = refl
odd_ins (x ∷ l) (suc i) b = ap (exactly_one x) (odd_ins l i b) ∙ one_left x b (odd l)

odd_del : (l : List Bool) (i : ℕ) → i < length l → odd l ≡ exactly_one (get_or l i false) (odd (del i l))
unfolding odd_many del
odd_del [] i h = absurd (not-suc-le-zero h)
odd_del (x ∷ l) zero h = refl
odd_del (x ∷ l) (suc i) h = ap (exactly_one x) (odd_del l i (le_of_suc-le-suc h)) ∙ one_left x (get_or l i false) (odd (del i l))

-- the edge that a corner put in before corner i of n splits
abbrev pub split_of : ℕ → ℕ → ℕ
split_of n i = cond (eqb i n) 0 i

module _ {A : Type 0} (d : A) where
  ins_after : (l : List A) (i : ℕ) (a : A) → i < length l → get_or (ins i a l) (suc i) d ≡ get_or l i d
  unfolding ins
  ins_after [] i a h = absurd (not-suc-le-zero h)
  ins_after (x ∷ l) zero a h = refl
  ins_after (x ∷ l) (suc i) a h = ins_after l i a (le_of_suc-le-suc h)

  -- what stands after a corner that was put in is what stood at the edge that it splits
  ins_next : (l : List A) (i : ℕ) (a : A) (n : ℕ) → length l ≡ n → i ≤ n → 0 < n → get_or (ins i a l) (next_of (n + 1) i) d ≡ get_or l (split_of n i) d
  unfolding next_of
  ins_next l i a n len h pos =
      ⊎_elim
      (λ (e : i ≡ n).
      let t : eqb (i + 1) (n + 1) ≡ true = eq-eqb _ _ (ap (◌+ 1) e) in
      let u : eqb i n ≡ true = eq-eqb _ _ e in
      rw (t, u) (ins_front d l i 0 a (omega arith) (omega arith)))
      (λ (e : i ≡ n → ⊥).
      let o : i + 1 ≡ n + 1 → ⊥ = λ (q : i + 1 ≡ n + 1). e (omega arith) in
      let t : eqb (i + 1) (n + 1) ≡ false = ne_eqb _ _ o in
      let u : eqb i n ≡ false = ne_eqb _ _ e in
      rw (t, u, add-one i) (ins_after l i a (omega arith)))
      (cases_eq i n)

  del_after : (l : List A) (i : ℕ) → get_or (del i l) i d ≡ get_or l (suc i) d
  unfolding del
  del_after [] i = refl
  del_after (x ∷ l) zero = refl
  del_after (x ∷ l) (suc i) = del_after l i

  -- what stands after a corner that was taken out is what stood at the next
  del_next : (l : List A) (i n : ℕ) → 1 < n → i < n → get_or (del i l) (there_of n i) d ≡ get_or l (next_of n i) d
  unfolding next_of there_of
  del_next l i n two h =
      ⊎_elim
      (λ (e : i + 1 ≡ n). let t : eqb (i + 1) n ≡ true = eq-eqb _ _ e in rw t (del_front d l i 0 (omega arith)))
      (λ (e : i + 1 ≡ n → ⊥). let t : eqb (i + 1) n ≡ false = ne_eqb _ _ e in rw (t, add-one i) (del_after l i))
      (cases_eq (i + 1) n)

split_below : (n i : ℕ) → i ≤ n → 0 < n → split_of n i < n
split_below n i h pos =
    ⊎_elim
    (λ (e : i ≡ n). let t : eqb i n ≡ true = eq-eqb _ _ e in rw t pos)
    (λ (e : i ≡ n → ⊥). let t : eqb i n ≡ false = ne_eqb _ _ e in rw t (omega arith))
    (cases_eq i n)

next_fits : (n i : ℕ) → i ≤ n → next_of (n + 1) i < suc n
next_fits n i h = let b : next_of (n + 1) i < n + 1 = next_below (n + 1) i (omega arith) in omega arith

module _ {C : Type 0} (d : C) (hit : C → C → Bool) (cs : List C) (i : ℕ) where
  abbrev ms : List Bool
  ms = marks d hit cs

  long : length ms ≡ length cs
  long = length_from d hit (last_of d cs) cs

  mark_at : (k : ℕ) → k < length cs → get_or ms k false ≡ hit (before_of d cs k) (get_or cs k d)
  mark_at k h = from_at d hit (last_of d cs) cs k h

  -- one edge is taken out, and two brought in
  pub parity_ins : (p : C) → i ≤ length cs → 0 < length cs
      → let k = split_of (length cs) i in
      exactly_one (odd (marks d hit (ins i p cs))) (odd ms) ≡ odd (hit (before_of d cs k) (get_or cs k d) ∷ hit (before_of d cs i) p ∷ hit p (get_or cs k d) ∷ [])
  unfolding ins_along
  parity_ins p h pos =
      let n = length cs in
      let k = split_of n i in
      let j = next_of (n + 1) i in
      let a = hit (before_of d cs i) p in
      let b = hit p (get_or (ins i p cs) j d) in
      let hj : j < length (ins i a ms) = rw (length_ins i a ms, long) (next_fits n i h) in
      ap (λ (l : List Bool). exactly_one (odd l) (odd ms)) (sym (ins_one d hit cs i p h))
      ∙ by_way (odd (set (ins i a ms) j b)) (odd (ins i a ms)) (odd ms)
      ∙ rw (odd_set (ins i a ms) j b hj, odd_ins ms i a, ins_next false ms i a n long h pos) (three (get_or ms k false) a b (odd ms) ∙ rw (mark_at k (split_below n i h pos), ins_next d cs i p n refl h pos))

  -- two edges are taken out, and one brought in
  pub parity_del : i < length cs → 1 < length cs
      → let j = next_of (length cs) i in
      exactly_one (odd (marks d hit (del i cs))) (odd ms) ≡ odd (hit (before_of d cs i) (get_or cs i d) ∷ hit (get_or cs i d) (get_or cs j d) ∷ hit (before_of d cs i) (get_or cs j d) ∷ [])
  unfolding del_along
  parity_del h two =
      let n = length cs in
      let t = there_of n i in
      let j = next_of n i in
      let b = hit (before_of d cs i) (get_or (del i cs) t d) in
      let hi : i < length ms = rw long h in
      let ht : t < length (del i ms) = omega (arith, length_del i ms hi, long, there_below n i h two) in
      ap (λ (l : List Bool). exactly_one (odd l) (odd ms)) (sym (del_one d hit cs i h))
      ∙ by_way (odd (set (del i ms) t b)) (odd (del i ms)) (odd ms)
      ∙ rw (odd_set (del i ms) t b ht, odd_del ms i hi, del_next false ms i n two h) (three' (get_or ms i false) (get_or ms j false) b (odd (del i ms)) ∙ rw (mark_at i h, mark_at j (next_below n i h), before_next d cs i h, del_next d cs i n two h))
