-- A graph in parts: one for each range of its vertices, in order.
use Rattle.std.specs.Prelude.{◌≡◌, ◌↔◌, ℕ, ◌*◌, ◌-◌, ◌/◌, ◌%◌, ◌<◌, ◌≤◌, min, List, [], length, map, slice_index_or, Option, Some, None}
use Rattle.std.specs.Borrow.{Bor}
use Rattle.std.specs.declared.sync.Arc.{Arc}
use Rattle.std.specs.declared.alloc.Global.{Global}
use Rattle.std.specs.Arc.{arc_value}
use Rattle.past_model.specs.declared.limits.TheConstants.{MOST_VERTICES, RANGE_VERTICES}
use Rattle.past_model.specs.declared.edit.Edit.{Edit}
use Rattle.past_model.specs.declared.home.Home.{Home}
use Rattle.graph_model.specs.Graph.{Graph, numbers_below}
use Rattle.past_model.specs.Homes.{home_after}
use Rattle.past_model.specs.Past.{Base, no_base}
use Rattle.past_model.specs.Edits.{after_batch, added, removed, AreEditsBelow}
use Rattle.shards.specs.declared.counts.Counts.{Counts}
use Rattle.shards.specs.Part.{Part, IsPart, row_at, home_at}

-- the parts that shards with owners show
abbrev pub parts_of : List (Arc Part Global) → List Part
parts_of shards = map arc_value shards

abbrev pub part_at : List Part → ℕ → Part
part_at parts range = slice_index_or parts range (record { range = 0; rows = []; homes = [] })

-- the part of a range of a graph: only the last one of a graph may have fewer than 256 vertices
pub record IsPartAt (g : Graph) (range : ℕ) (p : Part) : Type 0 where
  pub number : p.range ≡ range
  pub size : length p.rows ≡ min RANGE_VERTICES (g.vertex_count - RANGE_VERTICES * range)
  pub part : IsPart g p

-- a part for each range that has a vertex
pub record IsTable (g : Graph) (parts : List Part) : Type 0 where
  pub ranges : (range : ℕ) → (range < length parts) ↔ (RANGE_VERTICES * range < g.vertex_count)
  pub each : (range : ℕ) → range < length parts → IsPartAt g range (part_at parts range)

-- the shard in which a vertex's list stands, if the graph has the vertex's range
abbrev pub IsShardOf : Graph → ℕ → Option (Bor Part) → Type 0
IsShardOf g v None = g.vertex_count ≤ RANGE_VERTICES * (v / RANGE_VERTICES)
IsShardOf g v (Some shard) = IsPartAt g (v / RANGE_VERTICES) shard.now

-- a graph is these parts
pub record IsOfGraph (parts : List Part) : Type 0 where
  pub graph : Graph
  pub small : graph.vertex_count ≤ MOST_VERTICES
  pub table : IsTable graph parts

-- a graph is these parts, and the edits are among its vertices
pub record IsEditable (parts : List Part) (es : List Edit) : Type 0 where
  pub graph : Graph
  pub small : graph.vertex_count ≤ MOST_VERTICES
  pub table : IsTable graph parts
  pub below : AreEditsBelow graph.vertex_count es

-- the parts after edits, and what the edits did, whichever graph the parts were before
pub record AreAfter (es : List Edit) (parts next : List Part) (counts : Counts) : Type 0 where
  pub table : (g : Graph) → AreEditsBelow g.vertex_count es → IsTable g parts → IsTable (after_batch es g) next
  pub gained : (g : Graph) → AreEditsBelow g.vertex_count es → IsTable g parts → counts.added ≡ added es g
  pub lost : (g : Graph) → AreEditsBelow g.vertex_count es → IsTable g parts → counts.removed ≡ removed es g

-- a vertex's list, and its home; a vertex without a shard has an empty list, in its block
abbrev pub row_in : List Part → ℕ → List ℕ
row_in parts v = row_at (part_at parts (v / RANGE_VERTICES)) (v % RANGE_VERTICES)

abbrev pub home_in : List Part → ℕ → Home
home_in parts v = home_at (part_at parts (v / RANGE_VERTICES)) (v % RANGE_VERTICES)

-- each list is at home where it was before edits, or where it had to move
abbrev pub AreMoved : List Part → List Part → Type 0
AreMoved parts next = (v : ℕ) → home_in next v ≡ home_after (home_in parts v) (length (row_in next v))

-- the lists and the homes that parts have of so many vertices, as the base of a past; without parts it has no edge
abbrev pub base_in : ℕ → List Part → Base
base_in n parts = record { rows = map (row_in parts) (numbers_below n); homes = map (home_in parts) (numbers_below n) }

abbrev pub base_at : ℕ → Option (List Part) → Base
base_at n None = no_base
base_at n (Some parts) = base_in n parts
