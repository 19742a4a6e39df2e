use Rattle.std.proofs.Common.{◌≡◌, false, refl, sym, ap, ◌∙◌}
use Rattle.word_sets.specs.Words.{has_word}
use Rattle.neighbour_btree.specs.Node.{Node, IsInner}
use Rattle.neighbour_btree.proofs.NodeLists.{found_there, found_has, sound_inner}
use Rattle.neighbour_btree.proofs.Below.{grown_child}
use Rattle.neighbour_btree.proofs.levels.in_place.replace_below.Goals as goal

pub returns-in-Same-clause-ok : goal.returns-in-Same-clause-ok
returns-in-Same-clause-ok g c =
    let ns = c.args.children.now.items in
    let at = c.child_for-at.result in
    let child = c.index.result.now in
    let f = found_there g.C.Level.least ns c.as_slice.result.now c.args.word at child c.requires.inner c.as_slice.ensures.value c.requires.word c.child_for-at.ensures.within c.child_for-at.ensures.from c.child_for-at.ensures.to c.index.ensures in
    let grows = rw c.in-Same.is at c.in_ok-with.ensures in
    (found_has g.C.Level.least ns c.args.word at child f ∙ ap (λ (n : Node). has_word c.args.word n.words) (sym c.node.ensures.node) ∙ grows, refl)

pub returns-then-branch-clause-inner : goal.returns-then-branch-clause-inner
returns-then-branch-clause-inner g c =
    let ns = c.args.children.now.items in
    let at = c.child_for-at.result in
    let child = c.index.result.now in
    let f = found_there g.C.Level.least ns c.as_slice.result.now c.args.word at child c.requires.inner c.as_slice.ensures.value c.requires.word c.child_for-at.ensures.within c.child_for-at.ensures.from c.child_for-at.ensures.to c.index.ensures in
    let grows = rw c.in-New.is at c.in_ok-with.ensures in
    let placed = rw c.if-branch.true at c.in_ok-put-in-New.ensures.ok in
    let m = grown_child g.C.Level.node g.C.Level.least ns ns c.put.new.children.items c.args.word at child (g.C.Level.node c.node.result.now) c.in-New.first c.in-New.second c.adopted-first.result.0 c.adopted-first.result.1 f c.requires.word refl c.node.ensures.node grows.1 placed c.adopted-first.ensures.first c.adopted-first.ensures.second in
    let inner : IsInner g.C.Level.least c.put.new.children.items = record { some = m.0.some; most = c.put.ensures.fits; children = m.0.children; set = m.0.set } in
    inner

pub returns-then-branch-clause-ok : goal.returns-then-branch-clause-ok
returns-then-branch-clause-ok g c =
    let ns = c.args.children.now.items in
    let at = c.child_for-at.result in
    let child = c.index.result.now in
    let f = found_there g.C.Level.least ns c.as_slice.result.now c.args.word at child c.requires.inner c.as_slice.ensures.value c.requires.word c.child_for-at.ensures.within c.child_for-at.ensures.from c.child_for-at.ensures.to c.index.ensures in
    let grows = rw c.in-New.is at c.in_ok-with.ensures in
    let placed = rw c.if-branch.true at c.in_ok-put-in-New.ensures.ok in
    let m = grown_child g.C.Level.node g.C.Level.least ns ns c.put.new.children.items c.args.word at child (g.C.Level.node c.node.result.now) c.in-New.first c.in-New.second c.adopted-first.result.0 c.adopted-first.result.1 f c.requires.word refl c.node.ensures.node grows.1 placed c.adopted-first.ensures.first c.adopted-first.ensures.second in
    let inner : IsInner g.C.Level.least c.put.new.children.items = record { some = m.0.some; most = c.put.ensures.fits; children = m.0.children; set = m.0.set } in
    let absent : has_word c.args.word child.words ≡ false = ap (λ (n : Node). has_word c.args.word n.words) (sym c.node.ensures.node) ∙ grows.0 in
    (found_has g.C.Level.least ns c.args.word at child f ∙ absent, m.1, m.2, sound_inner g.C.Level.least c.put.new.children.items inner)
