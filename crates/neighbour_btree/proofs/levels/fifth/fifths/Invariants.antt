use Rattle.std.proofs.Common.{◌≡◌}
use Rattle.neighbour_btree.proofs.levels.fifth.fifths.Given as goal

abbrev pub invariant-loop-child : goal.invariant-loop-child
invariant-loop-child l = l.named.items ≡ l.yielded
