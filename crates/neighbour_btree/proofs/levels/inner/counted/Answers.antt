use Rattle.std.proofs.Common.{length, ap, arith}
use Rattle.neighbour_btree.specs.Node.{Node}
use Rattle.neighbour_btree.proofs.Lent.{few_words}
use Rattle.neighbour_btree.proofs.levels.inner.counted.Goals as goal

pub overflow_add-count : goal.overflow_add-count
overflow_add-count g c =
    let e = ap (λ (n : Node). length n.words) c.child-item.is in
    omega (arith, few_words c.args.children.now c.loop-child.child-index c.child-item.result c.requires (omega arith), c.loop-child.invariant, c.count-count.ensures, e)
