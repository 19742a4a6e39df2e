use Rattle.std.proofs.Common.{◌≡◌, ◌*◌, ◌<◌, length, take}
use Rattle.graph_model.specs.Graph.{Graph}
use Rattle.past_model.specs.Edits.{AreEditsBelow}
use Rattle.shards.specs.Groups.{filled_below}
use Rattle.shard_table.specs.Table.{IsTable}
use Rattle.shard_table.specs.Blocks.{parts_in, sizes_of, AreEdited, AreRehoused}
use Rattle.shard_table.proofs.table.Table.with.Given as goal

abbrev pub invariant-loop-number : goal.invariant-loop-number
invariant-loop-number l = record {
  sizes : sizes_of l.blocks.items ≡ take l.number (sizes_of l.self-inside.blocks.items);
  done : (g : Graph) → AreEditsBelow g.vertex_count l.groups.edits → IsTable g (parts_in l.self-inside.blocks.items) → AreEdited l.groups.edits g 0 (parts_in l.blocks.items) l.counts;
  next : l.number < length l.self-inside.blocks.items → l.next ≡ length (filled_below l.groups (l.self-inside.width.shards * l.number));
  homes : AreRehoused (parts_in (take l.number l.self-inside.blocks.items)) (parts_in l.blocks.items);
}
