use Rattle.std.proofs.Common.{◌≡◌, true, sym, ap, subst, ◌∙◌}
use Rattle.word_sets.specs.declared.places.TheConstants.{WORD_LIMIT}
use Rattle.word_sets.specs.Words.{IsSet, has_word}
use Rattle.word_sets.proofs.Changes.{with_present}
use Rattle.neighbour_btree.proofs.tree.NeighbourTree.with.Goals as goal

pub returns-in_ok-tree-in-None-clause-tree : goal.returns-in_ok-tree-in-None-clause-tree
returns-in_ok-tree-in-None-clause-tree c =
    let there = rw c.in-None.is at c.in_ok-with.ensures in
    let present : has_word c.args.word c.args.self.now ≡ true = ap (has_word c.args.word) (sym c.self.view_is) ∙ there in
    c.in_ok-tree-in-None.ensures ∙ sym (with_present 0 WORD_LIMIT c.args.word c.args.self.now (subst IsSet c.self.view_is c.self.invariant.set) present)
