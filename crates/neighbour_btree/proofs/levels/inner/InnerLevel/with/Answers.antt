use Rattle.std.proofs.Common.{◌≡◌, List, Vec, length, true, false, ◌*◌, sym, ap, subst, ◌∙◌}
use Rattle.std.specs.declared.alloc.Global.{Global}
use Rattle.word_sets.specs.Words.{has_word, with_word}
use Rattle.neighbour_btree.specs.Node.{Node, words_under}
use Rattle.neighbour_btree.specs.Shared.{items_of}
use Rattle.neighbour_btree.specs.Changes.{Packs}
use Rattle.neighbour_btree.proofs.NodeLists.{found, found_has, packs_weaker}
use Rattle.neighbour_btree.proofs.Below.{grown_child}
use Rattle.neighbour_btree.proofs.levels.inner.InnerLevel.with.Goals as goal

pub packed-requires-clause-children : goal.packed-requires-clause-children
packed-requires-clause-children g c =
    let ns : List Node = items_of c.self.inside.children in
    let cs = c.as_slice-children.result.now in
    let same : cs ≡ ns = c.as_slice-children.ensures.value ∙ ap (λ (v : Vec Node Global). v.items) c.deref.ensures in
    let child = c.index-children-at.result in
    let f = found g.C.Level.least ns cs c.args.word c.child_for-at.result child c.self.invariant same c.requires c.child_for-at.ensures.within c.child_for-at.ensures.from c.child_for-at.ensures.to c.index-children-at.is in
    let grows = rw c.in-New.is at c.in_ok-with.ensures in
    let m = grown_child g.C.Level.node g.C.Level.least ns cs c.in_ok-list-in-New.list.items c.args.word c.child_for-at.result child (g.C.Level.node c.node.result.now) c.in-New.first c.in-New.second c.adopted-pair.result.0 c.adopted-pair.result.1 f c.requires same c.node.ensures.node grows.1 c.in_ok-list-in-New.ensures c.adopted-pair.ensures.first c.adopted-pair.ensures.second in
    m.0.children

pub packed-requires-clause-set : goal.packed-requires-clause-set
packed-requires-clause-set g c =
    let ns : List Node = items_of c.self.inside.children in
    let cs = c.as_slice-children.result.now in
    let same : cs ≡ ns = c.as_slice-children.ensures.value ∙ ap (λ (v : Vec Node Global). v.items) c.deref.ensures in
    let child = c.index-children-at.result in
    let f = found g.C.Level.least ns cs c.args.word c.child_for-at.result child c.self.invariant same c.requires c.child_for-at.ensures.within c.child_for-at.ensures.from c.child_for-at.ensures.to c.index-children-at.is in
    let grows = rw c.in-New.is at c.in_ok-with.ensures in
    let m = grown_child g.C.Level.node g.C.Level.least ns cs c.in_ok-list-in-New.list.items c.args.word c.child_for-at.result child (g.C.Level.node c.node.result.now) c.in-New.first c.in-New.second c.adopted-pair.result.0 c.adopted-pair.result.1 f c.requires same c.node.ensures.node grows.1 c.in_ok-list-in-New.ensures c.adopted-pair.ensures.first c.adopted-pair.ensures.second in
    m.0.set

pub returns-in-Same : goal.returns-in-Same
returns-in-Same g c =
    let ns : List Node = items_of c.self.inside.children in
    let cs = c.as_slice-children.result.now in
    let same : cs ≡ ns = c.as_slice-children.ensures.value ∙ ap (λ (v : Vec Node Global). v.items) c.deref.ensures in
    let child = c.index-children-at.result in
    let f = found g.C.Level.least ns cs c.args.word c.child_for-at.result child c.self.invariant same c.requires c.child_for-at.ensures.within c.child_for-at.ensures.from c.child_for-at.ensures.to c.index-children-at.is in
    let grows = rw c.in-Same.is at c.in_ok-with.ensures in
    let present : has_word c.args.word child.words ≡ true = ap (λ (n : Node). has_word c.args.word n.words) (sym c.node.ensures.node) ∙ grows in
    ap (λ (n : Node). has_word c.args.word n.words) (sym c.self.view_is) ∙ found_has g.C.Level.least ns c.args.word c.child_for-at.result child f ∙ present

pub returns-in_ok-first-in-New : goal.returns-in_ok-first-in-New
returns-in_ok-first-in-New g c =
    let ns : List Node = items_of c.self.inside.children in
    let cs = c.as_slice-children.result.now in
    let same : cs ≡ ns = c.as_slice-children.ensures.value ∙ ap (λ (v : Vec Node Global). v.items) c.deref.ensures in
    let child = c.index-children-at.result in
    let f = found g.C.Level.least ns cs c.args.word c.child_for-at.result child c.self.invariant same c.requires c.child_for-at.ensures.within c.child_for-at.ensures.from c.child_for-at.ensures.to c.index-children-at.is in
    let grows = rw c.in-New.is at c.in_ok-with.ensures in
    let m = grown_child g.C.Level.node g.C.Level.least ns cs c.in_ok-list-in-New.list.items c.args.word c.child_for-at.result child (g.C.Level.node c.node.result.now) c.in-New.first c.in-New.second c.adopted-pair.result.0 c.adopted-pair.result.1 f c.requires same c.node.ensures.node grows.1 c.in_ok-list-in-New.ensures c.adopted-pair.ensures.first c.adopted-pair.ensures.second in
    let absent : has_word c.args.word child.words ≡ false = ap (λ (n : Node). has_word c.args.word n.words) (sym c.node.ensures.node) ∙ grows.0 in
    let Q : Node → Type 0 = λ n. (has_word c.args.word n.words ≡ false) × Packs (λ (m : Node). m) (16 * g.C.Level.least) n.size (with_word c.args.word n.words) c.in_ok-first-in-New.first c.in_ok-first-in-New.second in
    subst Q c.self.view_is (found_has g.C.Level.least ns c.args.word c.child_for-at.result child f ∙ absent, packs_weaker (λ (m : Node). m) (16 * g.C.Level.least) (length c.in_ok-list-in-New.list.items) (length ns) (words_under c.in_ok-list-in-New.list.items) (with_word c.args.word (words_under ns)) c.in_ok-first-in-New.first c.in_ok-first-in-New.second m.2 m.1 c.in_ok-first-in-New.ensures)
