use Rattle.std.proofs.Common.{◌≡◌, true, sym, ap, subst, ◌∙◌}
use Rattle.word_sets.specs.declared.places.TheConstants.{WORD_LIMIT}
use Rattle.word_sets.specs.Words.{IsSet, has_word}
use Rattle.word_sets.proofs.Changes.{with_present}
use Rattle.neighbour_btree.specs.Root.{words_of}
use Rattle.neighbour_btree.proofs.Roots.{set_with}
use Rattle.neighbour_btree.proofs.tree.NeighbourTree.insert.Goals as goal

pub invariant_of-self-in-Changed : goal.invariant_of-self-in-Changed
invariant_of-self-in-Changed c =
    let added = rw c.in-Changed.is at c.in_ok-insert.ensures.ok in
    record {
      size = c.insert.ensures.size;
      set = set_with c.args.word (words_of c.self.inside.root) (words_of c.insert.new.self) c.self.invariant.set c.requires added.1;
    }

pub returns-in-Same-clause-ok : goal.returns-in-Same-clause-ok
returns-in-Same-clause-ok c =
    let added = rw c.in-Same.is at c.in_ok-insert.ensures.ok in
    let present : has_word c.args.word c.args.self.now ≡ true = ap (has_word c.args.word) (sym c.self.view_is) ∙ added.0 in
    added.1 ∙ c.self.view_is ∙ sym (with_present 0 WORD_LIMIT c.args.word c.args.self.now (subst IsSet c.self.view_is c.self.invariant.set) present)
