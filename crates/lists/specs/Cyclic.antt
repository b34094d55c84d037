-- Lists whose last element stands before their first: corners, with something worked out of each edge's two ends.
use Rattle.std.specs.Prelude.{ℕ, zero, suc, ◌+◌, ◌-◌, cond, List, [], ◌∷◌, eqb, length, get_or, set}

-- the last of a list, and `d` where there is none
unfoldable pub last_of : {A : Type 0} → A → List A → A
last_of d [] = d
last_of d (a ∷ rest) = last_of a rest

-- `a` before element i, or at the end where there is none
unfoldable pub ins : {A : Type 0} → ℕ → A → List A → List A
ins zero a l = a ∷ l
ins (suc i) a [] = a ∷ []
ins (suc i) a (x ∷ l) = x ∷ ins i a l

-- element i taken out
unfoldable pub del : {A : Type 0} → ℕ → List A → List A
del i [] = []
del zero (x ∷ l) = l
del (suc i) (x ∷ l) = x ∷ del i l

-- what `f` gives for each element and the one before it, which for the first is `from`
unfoldable pub along : {C N : Type 0} → (C → C → N) → C → List C → List N
along f from [] = []
along f from (c ∷ cs) = f from c ∷ along f c cs

-- ---- places

-- the place before i of n; i may be n
unfoldable pub prev_of : ℕ → ℕ → ℕ
prev_of n i = cond (eqb i 0) (n - 1) (i - 1)

-- the place after i of n
unfoldable pub next_of : ℕ → ℕ → ℕ
next_of n i = cond (eqb (i + 1) n) 0 (i + 1)

-- where what stood after i of n stands once i is taken out
unfoldable pub there_of : ℕ → ℕ → ℕ
there_of n i = cond (eqb (i + 1) n) 0 i

-- the element before i; `d` is read only where there is none
abbrev pub before_of : {C : Type 0} → C → List C → ℕ → C
before_of d cs i = get_or (last_of d cs ∷ cs) i d

-- ---- what `f` gives, after a change of the elements: only what the change touches is worked out

-- the element at i is p now: the edge to it, and the edge from it
unfoldable pub put_along : {C N : Type 0} → C → (C → C → N) → List C → ℕ → C → List N → List N
put_along d f cs i p ns =
    let j = next_of (length cs) i in
    set (set ns i (f (before_of d cs i) p)) j (f p (get_or (set cs i p) j d))

-- p stands before i now
unfoldable pub ins_along : {C N : Type 0} → C → (C → C → N) → List C → ℕ → C → List N → List N
ins_along d f cs i p ns =
    let j = next_of (length cs + 1) i in
    set (ins i (f (before_of d cs i) p) ns) j (f p (get_or (ins i p cs) j d))

-- the element at i is gone: the edge that closes the gap
unfoldable pub del_along : {C N : Type 0} → C → (C → C → N) → List C → ℕ → List N → List N
del_along d f cs i ns =
    let j = there_of (length cs) i in
    set (del i ns) j (f (before_of d cs i) (get_or (del i cs) j d))
