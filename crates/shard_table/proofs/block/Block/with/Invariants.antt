use Rattle.std.proofs.Common.{◌≡◌, ◌+◌, length, take}
use Rattle.graph_model.specs.Graph.{Graph}
use Rattle.past_model.specs.Edits.{AreEditsBelow}
use Rattle.shards.specs.Groups.{filled_below, IsNextFilled}
use Rattle.shard_table.specs.Table.{parts_of}
use Rattle.shard_table.specs.Blocks.{ArePartsFrom, AreEdited, AreHoused, AreRehoused}
use Rattle.shard_table.proofs.block.Block.with.Given as goal

abbrev pub invariant-loop-place : goal.invariant-loop-place
invariant-loop-place l = record {
  count : length (parts_of l.shards.items) ≡ l.place;
  done : (g : Graph) → AreEditsBelow g.vertex_count l.groups.edits → ArePartsFrom g l.first l.self → AreEdited l.groups.edits g l.first (parts_of l.shards.items) l.counts;
  next : l.next ≡ length (filled_below l.groups (l.first + l.place));
  found : IsNextFilled l.groups (l.first + l.place) l.end l.filled;
  homes : AreHoused l.self → AreRehoused (take l.place l.self) (parts_of l.shards.items);
}
