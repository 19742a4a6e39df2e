use Rattle.std.proofs.Common.{◌≡◌, ◌+◌, ◌≤◌, List, Vec, length, true, false, ◌*◌, sym, ap, subst, ◌∙◌, arith}
use Rattle.std.specs.declared.alloc.Global.{Global}
use Rattle.word_sets.specs.Words.{has_word, without_word}
use Rattle.neighbour_btree.specs.Node.{Node, inner_of, IsSound}
use Rattle.neighbour_btree.specs.Shared.{items_of}
use Rattle.neighbour_btree.proofs.NodeLists.{found, found_has, sound_inner}
use Rattle.neighbour_btree.proofs.Below.{mended_child, shrunk_child_set}
use Rattle.neighbour_btree.proofs.levels.inner.InnerLevel.without.Goals as goal

pub new-requires : goal.new-requires
new-requires g c =
    let ns : List Node = items_of c.self.inside.children in
    let cs = c.as_slice-children.result.now in
    let same : cs ≡ ns = c.as_slice-children.ensures.value ∙ ap (λ (v : Vec Node Global). v.items) c.deref.ensures in
    let child = c.index-children-at.result in
    let f = found g.C.Level.least ns cs c.args.word c.child_for-at.result child c.self.invariant same c.requires.word c.child_for-at.ensures.within c.child_for-at.ensures.from c.child_for-at.ensures.to c.index-children-at.is in
    let n = g.C.Level.node c.in-Some.node in
    let shrinks = rw c.in-Some.is at c.in_ok-without.ensures in
    let size : (inner_of ns).size ≡ c.args.self.now.size = ap (λ (m : Node). m.size) c.self.view_is in
    let m = mended_child g.C.Level.least ns cs c.in_ok-list-in-Some.list.items c.args.word c.child_for-at.result child (g.C.Level.node c.node.result.now) n f same c.node.ensures.node (omega (arith, c.requires.enough)) shrinks.1 c.in_ok-list-in-Some.ensures.mends in
    m.0

pub returns-in-None : goal.returns-in-None
returns-in-None g c =
    let ns : List Node = items_of c.self.inside.children in
    let cs = c.as_slice-children.result.now in
    let same : cs ≡ ns = c.as_slice-children.ensures.value ∙ ap (λ (v : Vec Node Global). v.items) c.deref.ensures in
    let child = c.index-children-at.result in
    let f = found g.C.Level.least ns cs c.args.word c.child_for-at.result child c.self.invariant same c.requires.word c.child_for-at.ensures.within c.child_for-at.ensures.from c.child_for-at.ensures.to c.index-children-at.is in
    let shrinks = rw c.in-None.is at c.in_ok-without.ensures in
    let absent : has_word c.args.word child.words ≡ false = ap (λ (n : Node). has_word c.args.word n.words) (sym c.node.ensures.node) ∙ shrinks in
    ap (λ (n : Node). has_word c.args.word n.words) (sym c.self.view_is) ∙ found_has g.C.Level.least ns c.args.word c.child_for-at.result child f ∙ absent

pub mended-requires-clause-set : goal.mended-requires-clause-set
mended-requires-clause-set g c =
    let ns : List Node = items_of c.self.inside.children in
    let cs = c.as_slice-children.result.now in
    let same : cs ≡ ns = c.as_slice-children.ensures.value ∙ ap (λ (v : Vec Node Global). v.items) c.deref.ensures in
    let child = c.index-children-at.result in
    let f = found g.C.Level.least ns cs c.args.word c.child_for-at.result child c.self.invariant same c.requires.word c.child_for-at.ensures.within c.child_for-at.ensures.from c.child_for-at.ensures.to c.index-children-at.is in
    let n = g.C.Level.node c.in-Some.node in
    let shrinks = rw c.in-Some.is at c.in_ok-without.ensures in
    shrunk_child_set g.C.Level.least ns cs c.args.word c.child_for-at.result child (g.C.Level.node c.node.result.now) n f same c.node.ensures.node shrinks.1

pub returns-in_ok-node-in-Some : goal.returns-in_ok-node-in-Some
returns-in_ok-node-in-Some g c =
    let ns : List Node = items_of c.self.inside.children in
    let cs = c.as_slice-children.result.now in
    let same : cs ≡ ns = c.as_slice-children.ensures.value ∙ ap (λ (v : Vec Node Global). v.items) c.deref.ensures in
    let child = c.index-children-at.result in
    let f = found g.C.Level.least ns cs c.args.word c.child_for-at.result child c.self.invariant same c.requires.word c.child_for-at.ensures.within c.child_for-at.ensures.from c.child_for-at.ensures.to c.index-children-at.is in
    let n = g.C.Level.node c.in-Some.node in
    let shrinks = rw c.in-Some.is at c.in_ok-without.ensures in
    let size : (inner_of ns).size ≡ c.args.self.now.size = ap (λ (m : Node). m.size) c.self.view_is in
    let m = mended_child g.C.Level.least ns cs c.in_ok-list-in-Some.list.items c.args.word c.child_for-at.result child (g.C.Level.node c.node.result.now) n f same c.node.ensures.node (omega (arith, c.requires.enough)) shrinks.1 c.in_ok-list-in-Some.ensures.mends in
    let present : has_word c.args.word child.words ≡ true = ap (λ (m : Node). has_word c.args.word m.words) (sym c.node.ensures.node) ∙ shrinks.0 in
    let e = c.in_ok-node-in-Some.ensures in
    let Q : Node → Type 0 = λ m. (has_word c.args.word m.words ≡ true) × (c.in_ok-node-in-Some.node.words ≡ without_word c.args.word m.words) × (m.size ≤ c.in_ok-node-in-Some.node.size + 1) × IsSound (16 * g.C.Level.least) c.in_ok-node-in-Some.node in
    let long : c.in_ok-node-in-Some.node.size ≡ length c.in_ok-list-in-Some.list.items = ap (λ (m : Node). m.size) e in
    let sound : IsSound (16 * g.C.Level.least) c.in_ok-node-in-Some.node = subst (IsSound (16 * g.C.Level.least)) (sym e) (sound_inner g.C.Level.least c.in_ok-list-in-Some.list.items m.0) in
    subst Q c.self.view_is (found_has g.C.Level.least ns c.args.word c.child_for-at.result child f ∙ present, ap (λ (m : Node). m.words) e ∙ m.1, omega (arith, m.2, long), sound)
