use Rattle.std.proofs.Common.{◌≡◌, ℕ, ◌-◌, ◌*◌, ◌<◌, min, length, get_or, take}
use Rattle.shard_table.specs.Table.{parts_of}
use Rattle.shard_table.specs.Blocks.{parts_in, sizes_of}
use Rattle.shard_table.proofs.table.blocks_of.Given as goal

abbrev pub invariant-loop-number : goal.invariant-loop-number
invariant-loop-number l = record {
  count : length (sizes_of l.blocks.items) ≡ l.number;
  parts : parts_in l.blocks.items ≡ parts_of (take (min (length l.shards) (l.width * l.number)) l.shards);
  sizes : (i : ℕ) → i < l.number → get_or (sizes_of l.blocks.items) i 0 ≡ min l.width (length l.shards - l.width * i);
}
