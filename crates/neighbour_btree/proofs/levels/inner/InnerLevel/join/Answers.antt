use Rattle.std.proofs.Common.{◌≡◌, ◌++◌, List, Vec, ap, ap₂, ◌∙◌}
use Rattle.std.specs.declared.alloc.Global.{Global}
use Rattle.neighbour_btree.specs.Node.{Node, IsChild}
use Rattle.neighbour_btree.specs.Shared.{items_of}
use Rattle.std.proofs.lemmas.List.Elements.{All-append, All-same}
use Rattle.neighbour_btree.proofs.levels.inner.InnerLevel.join.Goals as goal

pub packed-requires-clause-children : goal.packed-requires-clause-children
packed-requires-clause-children g c =
    let ns : List Node = items_of c.self.inside.children in
    let ms : List Node = items_of c.right.inside.children in
    let list : c.in_ok-list.list.items ≡ ns ++ ms = c.in_ok-list.ensures ∙ ap₂ (λ a b. a ++ b) (c.as_slice.ensures.value ∙ ap (λ (v : Vec Node Global). v.items) c.deref.ensures) (c.as_slice-2.ensures.value ∙ ap (λ (v : Vec Node Global). v.items) c.deref-2.ensures) in
    All-same (IsChild g.C.Level.least) c.in_ok-list.list.items (ns ++ ms) list (All-append (IsChild g.C.Level.least) ns ms c.self.invariant.children c.right.invariant.children)
