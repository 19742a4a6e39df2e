use Rattle.std.proofs.Common.{◌≡◌, ◌-◌, ◌<◌, ◌≤◌, ℕ, length}
use Rattle.shards.specs.Part.{row_at}
use Rattle.shards.proofs.shard.Shard.edgeless_from.Given as goal

abbrev pub invariant-vertices : goal.invariant-vertices
invariant-vertices l = record {
  from : l.first ≤ l.next;
  inside : l.next ≤ l.self-inside.vertices;
  none : (i : ℕ) → l.first ≤ i → i < l.next → length (row_at l.self i) ≡ 0;
}

abbrev pub decreases-vertices : goal.decreases-vertices
decreases-vertices l = l.self-inside.vertices - l.next
