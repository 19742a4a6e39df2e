use Rattle.std.proofs.Common.{◌≡◌, ℕ, Vec, sym, subst, ap, ◌∙◌}
use Rattle.std.specs.declared.alloc.Global.{Global}
use Rattle.neighbour_btree.specs.Node.{IsLeaf}
use Rattle.neighbour_btree.specs.Shared.{items_of}
use Rattle.neighbour_btree.proofs.LeafWords.{IsLeaf-remove}
use Rattle.neighbour_btree.proofs.levels.leaf.LeafLevel.without.Goals as goal

pub new-requires : goal.new-requires
new-requires c =
    let same : c.as_slice-words.result.now ≡ items_of c.self.inside.words = c.as_slice-words.ensures.value ∙ ap (λ (v : Vec ℕ Global). v.items) c.deref.ensures in
    IsLeaf-remove c.args.word c.in-Ok.at c.as_slice-words.result.now c.in_ok-words-in-Ok.words.items (subst IsLeaf (sym same) c.self.invariant) c.in-Ok.ensures.0 c.in_ok-words-in-Ok.ensures c.in-Ok.ensures.1
