use Rattle.std.proofs.Common.{◌/◌, arith}
use Rattle.neighbour_btree.proofs.NodeLists.{Listed, halves, half_packs, whole_packs}
use Rattle.neighbour_btree.proofs.levels.inner.packed.Goals as goal

pub returns-then-len-le-MOST : goal.returns-then-len-le-MOST
returns-then-len-le-MOST g c =
    let l : Listed g.C.Level.least c.args.children.items = record { some = c.requires.some; fits = c.requires.fits; children = c.requires.children; set = c.requires.set } in
    whole_packs g.C.Level.least c.args.children.items c.in_ok-node.node l (omega (arith, c.if-len-le-MOST.true, c.len.ensures, c.args.children.ok)) c.in_ok-node.ensures

pub new-requires-2 : goal.new-requires-2
new-requires-2 g c =
    let l : Listed g.C.Level.least c.args.children.items = record { some = c.requires.some; fits = c.requires.fits; children = c.requires.children; set = c.requires.set } in
    (halves g.C.Level.least (c.len-2.result / 2) c.args.children.items c.split_off.new.self.items c.in_ok-later.later.items l (omega (arith, c.if-len-le-MOST.false, c.len.ensures, c.args.children.ok)) (omega (arith, c.len-2.ensures, c.args.children.ok)) c.in_ok-later.ensures.items c.in_ok-later.ensures.tail).0

pub new-requires-3 : goal.new-requires-3
new-requires-3 g c =
    let l : Listed g.C.Level.least c.args.children.items = record { some = c.requires.some; fits = c.requires.fits; children = c.requires.children; set = c.requires.set } in
    (halves g.C.Level.least (c.len-2.result / 2) c.args.children.items c.split_off.new.self.items c.in_ok-later.later.items l (omega (arith, c.if-len-le-MOST.false, c.len.ensures, c.args.children.ok)) (omega (arith, c.len-2.ensures, c.args.children.ok)) c.in_ok-later.ensures.items c.in_ok-later.ensures.tail).1

pub returns : goal.returns
returns g c =
    let l : Listed g.C.Level.least c.args.children.items = record { some = c.requires.some; fits = c.requires.fits; children = c.requires.children; set = c.requires.set } in
    half_packs g.C.Level.least (c.len-2.result / 2) c.args.children.items c.split_off.new.self.items c.in_ok-later.later.items c.in_ok-first.first c.in_ok-second.second l (omega (arith, c.if-len-le-MOST.false, c.len.ensures, c.args.children.ok)) (omega (arith, c.len-2.ensures, c.args.children.ok)) c.in_ok-later.ensures.items c.in_ok-later.ensures.tail c.in_ok-first.ensures c.in_ok-second.ensures
