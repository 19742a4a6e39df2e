use Rattle.std.proofs.Common.{◌≡◌, take}
use Rattle.shards.proofs.lists_changed.shared.Given as goal

abbrev pub invariant-loop-tree : goal.invariant-loop-tree
invariant-loop-tree l = l.shared.items ≡ take l.tree-index l.trees
