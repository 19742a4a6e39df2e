-- The answer of a breadth first search: what makes it right, and what one pass over the edges tests of it.
use Rattle.std.specs.Prelude.{◌≡◌, ℕ, zero, suc, ◌+◌, ◌-◌, ◌^◌, ◌<◌, ◌≤◌, ◌⊎◌, true, List, length, slice_index_or}
use Rattle.graph_model.specs.Graph.{Graph}
use Rattle.graph_model.specs.Views.{is_edge}

-- a way from one vertex to another, of so many edges
unfoldable pub Way : Graph → ℕ → ℕ → ℕ → Type 0
Way g zero u v = u ≡ v
Way g (suc k) u v = (w : ℕ) × Way g k u w × (is_edge g w v ≡ true)

-- the level of a vertex that the search did not find
abbrev pub not_found : ℕ
not_found = 2 ^ 32 - 1

-- what an array has for a vertex, whether a level or a parent; there is none past its end
abbrev pub entry_of : List ℕ → ℕ → ℕ
entry_of entries v = slice_index_or entries v not_found

-- the edges of a vertex that was found lead to vertices that were found, one level further at most
abbrev pub LeadsNoFurther : Graph → List ℕ → ℕ → Type 0
LeadsNoFurther g levels v =
    entry_of levels v < not_found → (u : ℕ) → is_edge g v u ≡ true
    → (entry_of levels u < not_found) × (entry_of levels u ≤ entry_of levels v + 1)

-- a vertex that was found is the root, or an edge leads to it from its parent, which is one level nearer
abbrev pub IsReached : Graph → ℕ → (levels parents : List ℕ) → ℕ → Type 0
IsReached g root levels parents v =
    entry_of levels v < not_found
    → (v ≡ root) ⊎ ((is_edge g (entry_of parents v) v ≡ true) × (entry_of levels v ≡ entry_of levels (entry_of parents v) + 1))

-- an array of levels and one of parents, with an entry for each vertex, that pass the test of a search from a root
pub record IsSearch (g : Graph) (root : ℕ) (levels parents : List ℕ) : Type 0 where
  pub level_count : length levels ≡ g.vertex_count
  pub parent_count : length parents ≡ g.vertex_count
  pub begins : entry_of levels root ≡ 0
  pub leads : (v : ℕ) → v < g.vertex_count → LeadsNoFurther g levels v
  pub reached : (v : ℕ) → v < g.vertex_count → IsReached g root levels parents v

-- A vertex to which there is a way from the root has a level, which is no greater than the way is long. And to each vertex that has
-- a level there is a way of that length. So levels are distances, and vertices without one cannot be reached.
abbrev pub LevelsAreDistances : Type 0
LevelsAreDistances =
    (g : Graph) (root : ℕ) (levels parents : List ℕ) → IsSearch g root levels parents → (v : ℕ)
    → ((k : ℕ) → Way g k root v → (entry_of levels v < not_found) × (entry_of levels v ≤ k))
    × (entry_of levels v < not_found → Way g (entry_of levels v) root v)
