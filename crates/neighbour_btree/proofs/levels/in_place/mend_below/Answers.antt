use Rattle.std.proofs.Common.{◌≡◌, true, refl, sym, ap, ◌∙◌}
use Rattle.word_sets.specs.Words.{has_word}
use Rattle.neighbour_btree.specs.Node.{Node}
use Rattle.neighbour_btree.proofs.NodeLists.{found_there, found_has, sound_inner}
use Rattle.neighbour_btree.proofs.Below.{mended_child, shrunk_child_set}
use Rattle.neighbour_btree.proofs.levels.in_place.mend_below.Goals as goal

pub returns-in-None-clause-ok : goal.returns-in-None-clause-ok
returns-in-None-clause-ok g c =
    let ns = c.args.children.now.items in
    let at = c.child_for-at.result in
    let child = c.index.result.now in
    let f = found_there g.C.Level.least ns c.as_slice.result.now c.args.word at child c.requires.inner c.as_slice.ensures.value c.requires.word c.child_for-at.ensures.within c.child_for-at.ensures.from c.child_for-at.ensures.to c.index.ensures in
    let shrinks = rw c.in-None.is at c.in_ok-without.ensures in
    (found_has g.C.Level.least ns c.args.word at child f ∙ ap (λ (n : Node). has_word c.args.word n.words) (sym c.node.ensures.node) ∙ shrinks, refl)

pub mended-requires-clause-set : goal.mended-requires-clause-set
mended-requires-clause-set g c =
    let ns = c.args.children.now.items in
    let at = c.child_for-at.result in
    let child = c.index.result.now in
    let f = found_there g.C.Level.least ns c.as_slice.result.now c.args.word at child c.requires.inner c.as_slice.ensures.value c.requires.word c.child_for-at.ensures.within c.child_for-at.ensures.from c.child_for-at.ensures.to c.index.ensures in
    let n = g.C.Level.node c.in-Some.node in
    let shrinks = rw c.in-Some.is at c.in_ok-without.ensures in
    shrunk_child_set g.C.Level.least ns c.as_slice-in-Some.result.now c.args.word at child (g.C.Level.node c.node.result.now) n f c.as_slice-in-Some.ensures.value c.node.ensures.node shrinks.1

pub returns-in_ok-list-in-Some-clause-inner : goal.returns-in_ok-list-in-Some-clause-inner
returns-in_ok-list-in-Some-clause-inner g c =
    let ns = c.args.children.now.items in
    let at = c.child_for-at.result in
    let child = c.index.result.now in
    let f = found_there g.C.Level.least ns c.as_slice.result.now c.args.word at child c.requires.inner c.as_slice.ensures.value c.requires.word c.child_for-at.ensures.within c.child_for-at.ensures.from c.child_for-at.ensures.to c.index.ensures in
    let n = g.C.Level.node c.in-Some.node in
    let shrinks = rw c.in-Some.is at c.in_ok-without.ensures in
    let m = mended_child g.C.Level.least ns c.as_slice-in-Some.result.now c.in_ok-list-in-Some.list.items c.args.word at child (g.C.Level.node c.node.result.now) n f c.as_slice-in-Some.ensures.value c.node.ensures.node c.requires.enough shrinks.1 c.in_ok-list-in-Some.ensures.mends in
    m.0

pub returns-in_ok-list-in-Some-clause-ok : goal.returns-in_ok-list-in-Some-clause-ok
returns-in_ok-list-in-Some-clause-ok g c =
    let ns = c.args.children.now.items in
    let at = c.child_for-at.result in
    let child = c.index.result.now in
    let f = found_there g.C.Level.least ns c.as_slice.result.now c.args.word at child c.requires.inner c.as_slice.ensures.value c.requires.word c.child_for-at.ensures.within c.child_for-at.ensures.from c.child_for-at.ensures.to c.index.ensures in
    let n = g.C.Level.node c.in-Some.node in
    let shrinks = rw c.in-Some.is at c.in_ok-without.ensures in
    let m = mended_child g.C.Level.least ns c.as_slice-in-Some.result.now c.in_ok-list-in-Some.list.items c.args.word at child (g.C.Level.node c.node.result.now) n f c.as_slice-in-Some.ensures.value c.node.ensures.node c.requires.enough shrinks.1 c.in_ok-list-in-Some.ensures.mends in
    let present : has_word c.args.word child.words ≡ true = ap (λ (m : Node). has_word c.args.word m.words) (sym c.node.ensures.node) ∙ shrinks.0 in
    (found_has g.C.Level.least ns c.args.word at child f ∙ present, m.1, m.2, sound_inner g.C.Level.least c.in_ok-list-in-Some.list.items m.0)
