use Rattle.std.proofs.Common.{◌≡◌, false, sym, ap, ◌∙◌}
use Rattle.word_sets.specs.Words.{has_word}
use Rattle.word_sets.proofs.Changes.{without_absent}
use Rattle.neighbour_btree.proofs.tree.NeighbourTree.without.Goals as goal

pub returns-in_ok-tree-in-None-clause-tree : goal.returns-in_ok-tree-in-None-clause-tree
returns-in_ok-tree-in-None-clause-tree c =
    let lacks = rw c.in-None.is at c.in_ok-without.ensures in
    let absent : has_word c.args.word c.args.self.now ≡ false = ap (has_word c.args.word) (sym c.self.view_is) ∙ lacks in
    c.in_ok-tree-in-None.ensures ∙ sym (without_absent c.args.word c.args.self.now absent)
