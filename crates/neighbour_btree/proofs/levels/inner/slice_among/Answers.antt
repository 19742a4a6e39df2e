use Rattle.std.proofs.Common.{subst, arith}
use Rattle.neighbour_btree.specs.Node.{Node}
use Rattle.neighbour_btree.specs.Changes.{IsSliceAt}
use Rattle.neighbour_btree.proofs.Lent.{slice_among}
use Rattle.neighbour_btree.proofs.levels.inner.slice_among.Goals as goal

pub returns-then-left-count : goal.returns-then-left-count
returns-then-left-count g c =
    let P : Node → Type 0 = λ n. IsSliceAt n.words c.loop-child.left c.slice_at.result.now in
    slice_among c.args.children.now c.loop-child.child-index c.args.place c.loop-child.left c.child-item.result c.slice_at.result.now (omega arith) c.child-item.is c.loop-child.invariant (omega (arith, c.if-left-count.true, c.count-count.ensures)) (subst P c.node.ensures.node c.slice_at.ensures)
