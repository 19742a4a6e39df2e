use Rattle.shards.proofs.PageLemmas.{AreEmpty}
use Rattle.shards.proofs.pages.empty_pages.Given as goal

abbrev pub invariant-loop-number : goal.invariant-loop-number
invariant-loop-number l = AreEmpty l.vertices l.number l.pages.items
