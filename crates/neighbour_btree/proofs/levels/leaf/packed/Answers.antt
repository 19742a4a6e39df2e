use Rattle.std.proofs.Common.{◌/◌, arith}
use Rattle.neighbour_btree.proofs.LeafWords.{IsLeaf-take, IsLeaf-drop}
use Rattle.neighbour_btree.proofs.levels.leaf.packed.Goals as goal

pub new-requires-2 : goal.new-requires-2
new-requires-2 c =
    let half = c.len-2.result / 2 in
    IsLeaf-take half c.args.words.items c.split_off.new.self.items c.requires.set (omega (arith, c.requires.fits, c.len-2.ensures, c.args.words.ok)) (omega (arith, c.requires.fits, c.len-2.ensures, c.args.words.ok)) c.in_ok-later.ensures.items

pub new-requires-3 : goal.new-requires-3
new-requires-3 c =
    let half = c.len-2.result / 2 in
    IsLeaf-drop half c.args.words.items c.in_ok-later.later.items c.requires.set (omega (arith, c.requires.fits, c.len-2.ensures, c.args.words.ok)) c.in_ok-later.ensures.tail
