use Rattle.std.proofs.Common.{◌≡◌, sym, ap, subst, arith}
use Rattle.word_sets.specs.Words.{IsSet}
use Rattle.neighbour_btree.specs.Node.{Node}
use Rattle.neighbour_btree.proofs.Below.{entry_taken}
use Rattle.neighbour_btree.proofs.levels.child.Child.remove.Goals as goal

pub invariant_of-self-in-Changed : goal.invariant_of-self-in-Changed
invariant_of-self-in-Changed g c =
    let takes = rw c.in-Changed.is at c.in_ok-change.ensures.ok in
    let size : (g.C.Level.node c.self.inside.node).size ≡ c.args.self.now.size = ap (λ (n : Node). n.size) c.self.view_is in
    let P : Node → Type 0 = λ n. IsSet n.words in
    entry_taken g.C.Level.least c.first-self-inside.result c.self.inside.count c.args.word (g.C.Level.node c.self.inside.node) (g.C.Level.node c.remove.new.self) c.self.invariant.word_count (omega (arith, c.requires.enough, size)) (subst P (sym c.self.view_is) c.requires.set) takes c.first-self-inside.ensures
