-- `region_file::corners_at` meets its contract. Assumes nothing.
use Prim.Native.Nat.{ℕ, suc, ◌+◌, ◌-◌, ◌*◌, ◌<◌}
use native.Mathlib.Omega.{arith}
use mathlib.Core.Path.{◌≡◌, sym, ◌∙◌}
use mathlib.Core.List.{List, ◌++◌, append-nil}
use lib.ListN.{length, take, set, length-set}
use Rattle.coo3d.specs.declared.Coo3D.{Coo3D}
use Rattle.lists.proofs.Passing.{stored}
use borrow.Author.Rules.{rules}
use Rattle.region_file.specs.Bytes.{corner_at, corners_at}
use Rattle.region_file.proofs.corners_at.Goals as goal

turn : (s : List ℕ) (at n i : ℕ) (cs : List Coo3D) (p : Coo3D) → i < n → i < length cs → p ≡ corner_at s (at + 40 * i)
    → take (i + 1) (set cs i p) ++ corners_at s (at + 40 * (i + 1)) (n - (i + 1)) ≡ take i cs ++ corners_at s (at + 40 * i) (n - i)
unfolding corners_at
turn s at n i cs p h room q =
    let d : n - i ≡ suc (n - (i + 1)) = omega arith in
    let e : at + 40 * (i + 1) ≡ at + 40 * i + 40 = omega arith in
    rw (q, d, e) (stored cs i (corner_at s (at + 40 * i)) (corners_at s (at + 40 * i + 40) (n - (i + 1))) room)

done : (s : List ℕ) (at n i : ℕ) (cs : List Coo3D) → i ≡ n → take i cs ++ corners_at s (at + 40 * i) (n - i) ≡ take n cs
unfolding corners_at
done s at n i cs e = let d : n - i ≡ 0 = omega (arith, e) in rw (d, append-nil, e)

pub loop-i-preserved : goal.loop-i-preserved
loop-i-preserved c =
    let l = c.loop-i in
    (length-set l.corners l.i _ ∙ l.invariant.0, turn _ _ _ _ l.corners _ c.loop-i-test.true (search rules) c.corner_at.ensures ∙ l.invariant.1)

pub returns : goal.returns
returns c = sym (done _ _ _ _ c.loop-i.corners (search rules)) ∙ c.loop-i.invariant.1
