use Rattle.neighbour_btree.proofs.NodeLists.{found_there}
use Rattle.neighbour_btree.proofs.Below.{found_set, added_below}
use Rattle.neighbour_btree.proofs.levels.in_place.insert_below.Goals as goal

pub insert-requires-clause-set : goal.insert-requires-clause-set
insert-requires-clause-set g c =
    let ns = c.args.children.now.items in
    let at = c.child_for-at.result in
    let child = c.index_mut-child.result.now in
    let f = found_there g.C.Level.least ns c.as_slice.result.now c.args.word at child c.requires.inner c.as_slice.ensures.value c.requires.word c.child_for-at.ensures.within c.child_for-at.ensures.from c.child_for-at.ensures.to c.index_mut-child.ensures.value in
    found_set g.C.Level.least ns c.args.word at child f

pub returns-clause-inner : goal.returns-clause-inner
returns-clause-inner g c =
    let ns = c.args.children.now.items in
    let at = c.child_for-at.result in
    let child = c.index_mut-child.result.now in
    let f = found_there g.C.Level.least ns c.as_slice.result.now c.args.word at child c.requires.inner c.as_slice.ensures.value c.requires.word c.child_for-at.ensures.within c.child_for-at.ensures.from c.child_for-at.ensures.to c.index_mut-child.ensures.value in
    (added_below g.C.Level.least ns c.args.word at child c.insert.new.self c.insert.result f c.requires.word c.insert.ensures.ok c.insert.ensures.err).0

pub returns-clause-ok : goal.returns-clause-ok
returns-clause-ok g c =
    let ns = c.args.children.now.items in
    let at = c.child_for-at.result in
    let child = c.index_mut-child.result.now in
    let f = found_there g.C.Level.least ns c.as_slice.result.now c.args.word at child c.requires.inner c.as_slice.ensures.value c.requires.word c.child_for-at.ensures.within c.child_for-at.ensures.from c.child_for-at.ensures.to c.index_mut-child.ensures.value in
    (added_below g.C.Level.least ns c.args.word at child c.insert.new.self c.insert.result f c.requires.word c.insert.ensures.ok c.insert.ensures.err).1
