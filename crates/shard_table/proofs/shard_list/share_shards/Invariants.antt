use Rattle.std.proofs.Common.{◌≡◌, take}
use Rattle.shard_table.specs.Table.{parts_of}
use Rattle.shard_table.proofs.shard_list.share_shards.Given as goal

abbrev pub invariant-loop-shard : goal.invariant-loop-shard
invariant-loop-shard l = parts_of l.copy.items ≡ parts_of (take l.shard-index l.shards)
