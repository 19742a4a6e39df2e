-- The parts of a graph whose edges are in sorted arrays.
use Rattle.std.specs.Prelude.{◌≡◌, ◌↔◌, ℕ, ◌+◌, ◌-◌, ◌*◌, ◌<◌, min, List, length}
use Rattle.past_model.specs.declared.limits.TheConstants.{RANGE_VERTICES}
use Rattle.graph_model.specs.Graph.{Graph, neighbours}
use Rattle.shards.specs.Arrays.{list_of, part_from}
use Rattle.shards.specs.Part.{Part}
use Rattle.shard_table.specs.Table.{part_at}

-- a part for each range of so many vertices, with their lists in their homes
pub record ArePartsOf (starts targets : List ℕ) (n : ℕ) (parts : List Part) : Type 0 where
  pub ranges : (range : ℕ) → (range < length parts) ↔ (RANGE_VERTICES * range < n)
  pub each : (range : ℕ) → range < length parts
      → part_at parts range ≡ part_from starts targets range (min RANGE_VERTICES (n - RANGE_VERTICES * range))

-- these are the lists of a graph's vertices
pub record AreListsOf (g : Graph) (starts targets : List ℕ) : Type 0 where
  pub count : length starts ≡ g.vertex_count + 1
  pub each : (v : ℕ) → v < g.vertex_count → neighbours g v ≡ list_of starts targets v
