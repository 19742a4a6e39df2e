use Rattle.std.proofs.Common.{◌≡◌, false, sym, ap, ◌∙◌}
use Rattle.word_sets.specs.Words.{has_word}
use Rattle.word_sets.proofs.Changes.{without_absent}
use Rattle.neighbour_btree.specs.Root.{words_of}
use Rattle.neighbour_btree.proofs.Roots.{set_without}
use Rattle.neighbour_btree.proofs.tree.NeighbourTree.remove.Goals as goal

pub invariant_of-self-in-Changed : goal.invariant_of-self-in-Changed
invariant_of-self-in-Changed c =
    let taken = rw c.in-Changed.is at c.in_ok-remove.ensures.ok in
    record {
      size = c.remove.ensures.size;
      set = set_without c.args.word (words_of c.self.inside.root) (words_of c.remove.new.self) c.self.invariant.set taken.1;
    }

pub returns-in-Same-clause-ok : goal.returns-in-Same-clause-ok
returns-in-Same-clause-ok c =
    let taken = rw c.in-Same.is at c.in_ok-remove.ensures.ok in
    let absent : has_word c.args.word c.args.self.now ≡ false = ap (has_word c.args.word) (sym c.self.view_is) ∙ taken.0 in
    taken.1 ∙ c.self.view_is ∙ sym (without_absent c.args.word c.args.self.now absent)
