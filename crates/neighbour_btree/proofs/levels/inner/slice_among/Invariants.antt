use Rattle.std.proofs.Common.{◌≡◌, ◌+◌, length, take}
use Rattle.neighbour_btree.specs.Node.{words_under}
use Rattle.neighbour_btree.proofs.levels.inner.slice_among.Given as goal

abbrev pub invariant-loop-child : goal.invariant-loop-child
invariant-loop-child g l = l.place ≡ length (words_under (take l.child-index l.children)) + l.left
