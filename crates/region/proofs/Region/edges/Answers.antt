-- `region::Region::edges` meets its contract. Assumes nothing.
use native.Mathlib.Nat.{pos_of_ne-zero}
use mathlib.Core.Path.{◌≡◌}
use lib.ListN.{length}
use borrow.Author.Rules.{rules}
use Rattle.region.proofs.Edges.{edges_none, edges_some}
use Rattle.region.proofs.Region.edges.Goals as goal
use Rattle.region.proofs.Region.edges.Goals.{then-count-eq0, else-count-eq0}

pub returns : goal.returns
returns c =
    let r = c.args.self.now in
    let e : length r.vertices ≡ 64 = search rules in
    let d : length r.cross_products ≡ 64 = search rules in
    let n = c.min-count.ensures in
    elim c.if-count-eq0.branch [
      | then-count-eq0 t ↦ edges_none r _ e d n _ t.if-count-eq0.true
      | else-count-eq0 t ↦ rw t.from-is (edges_some r _ e d n (pos_of_ne-zero t.if-count-eq0.false))
    ]
