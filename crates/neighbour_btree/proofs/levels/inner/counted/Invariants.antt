use Rattle.std.proofs.Common.{◌≡◌, length, take}
use Rattle.neighbour_btree.specs.Node.{words_under}
use Rattle.neighbour_btree.proofs.levels.inner.counted.Given as goal

abbrev pub invariant-loop-child : goal.invariant-loop-child
invariant-loop-child g l = l.count ≡ length (words_under (take l.child-index l.children))
