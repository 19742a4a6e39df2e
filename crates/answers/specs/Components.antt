-- The answer of a search for components, whatever the edges' directions: what makes it right, and what one pass tests of it.
use Rattle.std.specs.Prelude.{◌≡◌, ℕ, zero, suc, ◌+◌, ◌<◌, ◌≤◌, ◌⊎◌, ◌↔◌, true, List, length, slice_index}
use Rattle.graph_model.specs.Graph.{Graph}
use Rattle.graph_model.specs.Views.{is_edge}

-- an edge between two vertices, in one direction or the other
abbrev pub Touch : Graph → ℕ → ℕ → Type 0
Touch g u v = (is_edge g u v ≡ true) ⊎ (is_edge g v u ≡ true)

-- a walk from one vertex to another, of so many edges in any direction
unfoldable pub Walk : Graph → ℕ → ℕ → ℕ → Type 0
Walk g zero u v = u ≡ v
Walk g (suc k) u v = (w : ℕ) × Walk g k u w × Touch g w v

abbrev pub AreJoined : Graph → ℕ → ℕ → Type 0
AreJoined g u v = (k : ℕ) × Walk g k u v

-- the edges of a vertex lead to vertices with its own label
abbrev pub KeepsItsLabel : Graph → List ℕ → ℕ → Type 0
KeepsItsLabel g labels v = (u : ℕ) → is_edge g v u ≡ true → slice_index labels u ≡ slice_index labels v

-- a vertex is its own label, or an edge joins it to its parent, which is one step nearer to the label
abbrev pub ReachesItsLabel : Graph → (labels parents steps : List ℕ) → ℕ → Type 0
ReachesItsLabel g labels parents steps v =
    (slice_index labels v ≡ v)
    ⊎ (Touch g (slice_index parents v) v × (slice_index steps v ≡ slice_index steps (slice_index parents v) + 1))

-- arrays of labels, parents and steps, with an entry for each vertex, that pass the test of components
pub record AreComponents (g : Graph) (labels parents steps : List ℕ) : Type 0 where
  pub label_count : length labels ≡ g.vertex_count
  pub parent_count : length parents ≡ g.vertex_count
  pub step_count : length steps ≡ g.vertex_count
  pub keep : (v : ℕ) → v < g.vertex_count → KeepsItsLabel g labels v
  pub least : (v : ℕ) → v < g.vertex_count → slice_index labels v ≤ v
  pub reach : (v : ℕ) → v < g.vertex_count → ReachesItsLabel g labels parents steps v

-- two vertices have the same label exactly if they are joined, and a label is the least vertex that is joined to its vertices
abbrev pub LabelsAreComponents : Type 0
LabelsAreComponents =
    (g : Graph) (labels parents steps : List ℕ) → AreComponents g labels parents steps → (u v : ℕ) → u < g.vertex_count → v < g.vertex_count
    → ((slice_index labels u ≡ slice_index labels v) ↔ AreJoined g u v) × (AreJoined g u v → slice_index labels u ≤ v)
