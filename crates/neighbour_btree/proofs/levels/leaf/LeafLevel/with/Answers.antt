use Rattle.std.proofs.Common.{◌≡◌, ℕ, Vec, sym, subst, ap, ◌∙◌}
use Rattle.std.specs.declared.alloc.Global.{Global}
use Rattle.word_sets.specs.Words.{IsSet}
use Rattle.word_sets.proofs.Changes.{IsSet-insert}
use Rattle.neighbour_btree.specs.Shared.{items_of}
use Rattle.neighbour_btree.proofs.levels.leaf.LeafLevel.with.Goals as goal

pub packed-requires-clause-set : goal.packed-requires-clause-set
packed-requires-clause-set c =
    let same : c.as_slice-words.result.now ≡ items_of c.self.inside.words = c.as_slice-words.ensures.value ∙ ap (λ (v : Vec ℕ Global). v.items) c.deref.ensures in
    IsSet-insert c.args.word c.in-Err.at c.as_slice-words.result.now c.in_ok-words-in-Err.words.items (subst IsSet (sym same) c.self.invariant.set) c.requires c.in_ok-words-in-Err.ensures c.in-Err.ensures.1
