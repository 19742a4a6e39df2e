-- The edges of a graph that a walk has still ahead.
use Rattle.std.specs.Prelude.{◌≡◌, ℕ, ◌+◌, ◌<◌, ◌≤◌, List, [], ◌++◌, drop, Option, Some, None}
use Rattle.std.specs.List.{flat_map}
use Rattle.past_model.specs.declared.limits.TheConstants.{MOST_VERTICES}
use Rattle.past_model.specs.Past.{Past}
use Rattle.graph_model.specs.Graph.{Graph, numbers_below, neighbours, degree}
use Rattle.edge_fold.specs.declared.edge.Edge.{Edge}
use Rattle.edge_map.specs.Listing.{edges_from, edges_of}

-- a version's past, and the last ones of its edges, from one of them on
pub record Ahead : Type 0 where
  pub past : Past
  pub edges : List Edge

-- the edges of all vertices after one
abbrev pub edges_behind : Graph → ℕ → List Edge
edges_behind g source = flat_map (edges_of g) (drop (source + 1) (numbers_below g.vertex_count))

-- those of a vertex from a place on, and those of all vertices after it
abbrev pub edges_at : Graph → ℕ → ℕ → List Edge
edges_at g source place = edges_from g source place (drop place (neighbours g source)) ++ edges_behind g source

-- some targets are those of a vertex from a place on, and this is the vertex's degree
pub record IsAt (g : Graph) (source place degree_there : ℕ) (targets : List ℕ) : Type 0 where
  pub inside : source < MOST_VERTICES
  pub left : targets ≡ drop place (neighbours g source)
  pub count : degree_there ≡ degree g source
  pub few : degree_there ≤ MOST_VERTICES

-- the first vertex after one that has a neighbour, and its degree
abbrev pub IsNextSource : Graph → ℕ → Option (ℕ × ℕ) → Type 0
IsNextSource g source None = edges_behind g source ≡ []
IsNextSource g source (Some next) =
    (next.0 < MOST_VERTICES) × (edges_behind g source ≡ edges_at g next.0 0) × (next.1 ≡ degree g next.0) × (0 < next.1) × (next.1 ≤ MOST_VERTICES)
