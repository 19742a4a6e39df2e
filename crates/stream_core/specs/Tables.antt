-- A table of parts while a batch is in work.
use Rattle.std.specs.Prelude.{◌==◌, ◌↔◌, ℕ, ◌*◌, ◌<◌, if◌then◌else◌, List, length, filter}
use Rattle.past_model.specs.declared.limits.TheConstants.{RANGE_VERTICES}
use Rattle.past_model.specs.declared.edit.Edit.{Edit}
use Rattle.graph_model.specs.Graph.{Graph}
use Rattle.past_model.specs.Edits.{after_batch}
use Rattle.shards.specs.Part.{Part}
use Rattle.shard_table.specs.Table.{IsPartAt, part_at}
use Rattle.store_model.specs.Core.{range_of, is_done}

-- the edits of a range, in their order
abbrev pub own_edits : List Edit → ℕ → List Edit
own_edits es range = filter (λ e. range_of e == range) es

-- the parts of a graph, of which those whose ranges are done are after a batch
pub record IsTableInWork (g : Graph) (es : List Edit) (done : List ℕ) (parts : List Part) : Type 0 where
  pub ranges : (range : ℕ) → (range < length parts) ↔ (RANGE_VERTICES * range < g.vertex_count)
  pub each : (range : ℕ) → range < length parts
      → IsPartAt (if is_done done range then after_batch es g else g) range (part_at parts range)
