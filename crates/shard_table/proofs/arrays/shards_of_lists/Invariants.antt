use Rattle.std.proofs.Common.{◌≡◌, ℕ, ◌<◌, ◌-◌, ◌*◌, min, length}
use Rattle.shards.specs.Arrays.{part_from}
use Rattle.shard_table.specs.Table.{parts_of, part_at}
use Rattle.shard_table.proofs.arrays.shards_of_lists.Given as goal

abbrev pub invariant-loop-range : goal.invariant-loop-range
invariant-loop-range l = record {
  count : length (parts_of l.shards.items) ≡ l.range;
  each : (r : ℕ) → r < length (parts_of l.shards.items) → part_at (parts_of l.shards.items) r ≡ part_from l.lists.starts.now l.lists.targets.now r (min 256 (l.vertex_count - 256 * r));
}
