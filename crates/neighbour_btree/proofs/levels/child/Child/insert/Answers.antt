use Rattle.std.proofs.Common.{length, ap, arith}
use Rattle.word_sets.specs.declared.places.TheConstants.{WORD_LIMIT}
use Rattle.neighbour_btree.specs.Node.{Node}
use Rattle.word_sets.proofs.Within.{IsWithin-length}
use Rattle.neighbour_btree.proofs.Below.{entry_added}
use Rattle.neighbour_btree.proofs.levels.child.Child.insert.Goals as goal

pub overflow_add-self : goal.overflow_add-self
overflow_add-self g c =
    let e = ap (λ (n : Node). length n.words) c.self.view_is in
    omega (arith, IsWithin-length 0 WORD_LIMIT c.args.self.now.words c.requires.set, c.self.invariant.word_count, e)

pub invariant_of-self-in-Changed : goal.invariant_of-self-in-Changed
invariant_of-self-in-Changed g c =
    let adds = rw c.in-Changed.is at c.in_ok-change.ensures.ok in
    entry_added g.C.Level.least c.first-self-inside.result c.self.inside.count c.args.word (g.C.Level.node c.self.inside.node) (g.C.Level.node c.insert.new.self) c.self.invariant.word_count c.self.invariant.child adds c.first-self-inside.ensures
