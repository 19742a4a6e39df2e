use Rattle.std.proofs.Common.{◌≡◌, List, Vec, sym, ap, ◌∙◌}
use Rattle.std.specs.declared.alloc.Global.{Global}
use Rattle.word_sets.specs.Words.{has_word}
use Rattle.neighbour_btree.specs.Node.{Node}
use Rattle.neighbour_btree.specs.Shared.{items_of}
use Rattle.neighbour_btree.proofs.NodeLists.{found, found_has}
use Rattle.neighbour_btree.proofs.levels.inner.InnerLevel.contains.Goals as goal

pub returns : goal.returns
returns g c =
    let ns : List Node = items_of c.self.inside.children in
    let cs = c.as_slice-children.result.now in
    let same : cs ≡ ns = c.as_slice-children.ensures.value ∙ ap (λ (v : Vec Node Global). v.items) c.deref.ensures in
    let child = c.index-children-at.result in
    let f = found g.C.Level.least ns cs c.args.word c.child_for-at.result child c.self.invariant same c.requires c.child_for-at.ensures.within c.child_for-at.ensures.from c.child_for-at.ensures.to c.index-children-at.is in
    c.contains.ensures
    ∙ ap (λ (n : Node). has_word c.args.word n.words) c.node.ensures.node
    ∙ sym (found_has g.C.Level.least ns c.args.word c.child_for-at.result child f)
    ∙ ap (λ (n : Node). has_word c.args.word n.words) c.self.view_is
