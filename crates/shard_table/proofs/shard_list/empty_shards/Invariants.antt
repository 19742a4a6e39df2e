use Rattle.std.proofs.Common.{◌≡◌, ℕ, ◌<◌, length}
use Rattle.graph_model.specs.Graph.{empty_graph}
use Rattle.shard_table.specs.Blocks.{AreInBlocks}
use Rattle.shard_table.specs.Table.{IsPartAt, parts_of, part_at}
use Rattle.shard_table.proofs.shard_list.empty_shards.Given as goal

abbrev pub invariant-loop-range : goal.invariant-loop-range
invariant-loop-range l = record {
  count : length (parts_of l.shards.items) ≡ l.range;
  each : (r : ℕ) → r < length (parts_of l.shards.items) → IsPartAt (empty_graph l.vertex_count) r (part_at (parts_of l.shards.items) r);
  homes : AreInBlocks (parts_of l.shards.items);
}
