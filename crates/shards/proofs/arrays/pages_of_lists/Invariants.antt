use Rattle.shards.proofs.ArrayLemmas.{AreFrom}
use Rattle.shards.proofs.arrays.pages_of_lists.Given as goal

abbrev pub invariant-loop-number : goal.invariant-loop-number
invariant-loop-number l = AreFrom l.lists.starts.now l.lists.targets.now l.first l.width l.vertices l.number l.pages.items
