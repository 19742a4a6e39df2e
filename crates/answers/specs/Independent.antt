-- The answer of an independent set: what makes it right, and what one pass over the edges tests of it.
use Rattle.std.specs.Prelude.{◌≡◌, ℕ, ◌<◌, ◌==◌, Bool, true, false, not, List, length, slice_index}
use Rattle.graph_model.specs.Graph.{Graph}
use Rattle.graph_model.specs.Views.{is_edge}
use Rattle.answers.specs.Components.{Touch}

-- whether a vertex is in the set: its mark is not 0
abbrev pub is_in : List ℕ → ℕ → Bool
is_in marks v = not (slice_index marks v == 0)

-- an edge of a vertex of the set leads to no other one of it
abbrev pub IsApart : Graph → List ℕ → ℕ → Type 0
IsApart g marks v = is_in marks v ≡ true → (u : ℕ) → is_edge g v u ≡ true → is_in marks u ≡ true → u ≡ v

-- an edge of a vertex outside leads to one of the set
abbrev pub IsBeside : Graph → List ℕ → ℕ → Type 0
IsBeside g marks v = is_in marks v ≡ false → (u : ℕ) × (is_edge g v u ≡ true) × (is_in marks u ≡ true)

-- an array of marks, with an entry for each vertex, that passes the test of an independent set
pub record IsIndependentSet (g : Graph) (marks : List ℕ) : Type 0 where
  pub mark_count : length marks ≡ g.vertex_count
  pub apart : (v : ℕ) → v < g.vertex_count → IsApart g marks v
  pub beside : (v : ℕ) → v < g.vertex_count → IsBeside g marks v

-- no edge joins two vertices of the set, and each vertex outside is joined to one of them, so that none can be added
abbrev pub SetsAreIndependent : Type 0
SetsAreIndependent =
    (g : Graph) (marks : List ℕ) → IsIndependentSet g marks
    → ((u v : ℕ) → is_in marks u ≡ true → is_in marks v ≡ true → Touch g u v → u ≡ v)
    × ((v : ℕ) → v < g.vertex_count → is_in marks v ≡ false → (u : ℕ) × Touch g u v × (is_in marks u ≡ true))
