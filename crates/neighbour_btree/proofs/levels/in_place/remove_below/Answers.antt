use Rattle.std.proofs.Common.{ap, arith}
use Rattle.neighbour_btree.specs.Node.{Node}
use Rattle.neighbour_btree.proofs.NodeLists.{found_there}
use Rattle.neighbour_btree.proofs.Below.{found_set, taken_below}
use Rattle.neighbour_btree.proofs.levels.in_place.remove_below.Goals as goal

pub remove-requires-clause-set : goal.remove-requires-clause-set
remove-requires-clause-set g c =
    let ns = c.args.children.now.items in
    let at = c.child_for-at.result in
    let child = c.index_mut-child.result.now in
    let f = found_there g.C.Level.least ns c.as_slice.result.now c.args.word at child c.requires.inner c.as_slice.ensures.value c.requires.word c.child_for-at.ensures.within c.child_for-at.ensures.from c.child_for-at.ensures.to c.index_mut-child.ensures.value in
    found_set g.C.Level.least ns c.args.word at child f

pub returns-clause-inner : goal.returns-clause-inner
returns-clause-inner g c =
    let ns = c.args.children.now.items in
    let at = c.child_for-at.result in
    let child = c.index_mut-child.result.now in
    let f = found_there g.C.Level.least ns c.as_slice.result.now c.args.word at child c.requires.inner c.as_slice.ensures.value c.requires.word c.child_for-at.ensures.within c.child_for-at.ensures.from c.child_for-at.ensures.to c.index_mut-child.ensures.value in
    (taken_below g.C.Level.least ns c.args.word at child c.remove.new.self c.remove.result f (omega (arith, c.if-size-le-FEWEST.false, c.size.ensures, ap (λ (n : Node). n.size) c.node.ensures.node)) c.remove.ensures.ok c.remove.ensures.err).0

pub returns-clause-ok : goal.returns-clause-ok
returns-clause-ok g c =
    let ns = c.args.children.now.items in
    let at = c.child_for-at.result in
    let child = c.index_mut-child.result.now in
    let f = found_there g.C.Level.least ns c.as_slice.result.now c.args.word at child c.requires.inner c.as_slice.ensures.value c.requires.word c.child_for-at.ensures.within c.child_for-at.ensures.from c.child_for-at.ensures.to c.index_mut-child.ensures.value in
    (taken_below g.C.Level.least ns c.args.word at child c.remove.new.self c.remove.result f (omega (arith, c.if-size-le-FEWEST.false, c.size.ensures, ap (λ (n : Node). n.size) c.node.ensures.node)) c.remove.ensures.ok c.remove.ensures.err).1
