-- A push over a frontier, as a whole and in parts: what the edges before a place leave together.
use Rattle.std.specs.Prelude.{◌≡◌, ℕ, ◌⊎◌, List, ◌++◌, length, take, slice_index}
use Rattle.std.specs.List.{flat_map}
use Rattle.bpf_image.specs.Program.{Program}
use Rattle.graph_model.specs.Graph.{Graph, neighbours}
use Rattle.map_model.specs.declared.reduction.Reduction.{Reduction}
use Rattle.map_model.specs.declared.progress.Progress.{Progress}
use Rattle.map_model.specs.EdgeMap.{Inputs, all_with, reduction_of_numbers}
use Rattle.map_model.specs.Parts.{IsPlace, numbers_before}
use Rattle.map_model.specs.Pushes.{pushed}

-- the values after the number of each of a frontier's edges has gone to its target's place
abbrev pub pushed_edges : Program → ℕ → Graph → Reduction → Inputs → (frontier values : List ℕ) → List ℕ
pushed_edges p steps g r inputs frontier values = pushed r (flat_map (neighbours g) frontier) (all_with p steps g inputs frontier) values

-- the targets of a frontier's edges before a place, one vertex after another
abbrev pub targets_before : Graph → List ℕ → Progress → List ℕ
targets_before g frontier at =
    flat_map (neighbours g) (take at.vertex frontier) ++ take at.place (neighbours g (slice_index frontier at.vertex))

-- What a push that has come to a place has left of the values that it began with: the push of the edges before the place, each of
-- which has its number; how many these are, and what their numbers reduce to. It does not say how the push was cut.
pub record IsPushedSoFar (p : Program) (steps : ℕ) (g : Graph) (r : Reduction) (inputs : Inputs) (frontier : List ℕ) (at : Progress) (first values : List ℕ) : Type 0 where
  pub values_are : values ≡ pushed r (targets_before g frontier at) (numbers_before p steps g inputs frontier at) first
  pub each_has_one : length (targets_before g frontier at) ≡ length (numbers_before p steps g inputs frontier at)
  pub edges_are : at.edges ≡ length (numbers_before p steps g inputs frontier at)
  pub total_is : at.total ≡ reduction_of_numbers r (numbers_before p steps g inputs frontier at)

-- a push is at its beginning, or has left what it should have
abbrev pub HasBegunPush : Program → ℕ → Graph → Reduction → Inputs → (frontier : List ℕ) → Progress → (first values : List ℕ) → Type 0
HasBegunPush p steps g r inputs frontier at first values =
    ((at.vertex ≡ 0) × (at.place ≡ 0) × (values ≡ first)) ⊎ IsPushedSoFar p steps g r inputs frontier at first values

-- at the frontier's end that is the push of all its edges
abbrev pub PushPartsAreTheWhole : Type 0
PushPartsAreTheWhole =
    (p : Program) (steps : ℕ) (g : Graph) (r : Reduction) (inputs : Inputs) (frontier : List ℕ) (at : Progress) (first values : List ℕ)
    → IsPushedSoFar p steps g r inputs frontier at first values → IsPlace g frontier at → at.vertex ≡ length frontier
    → (values ≡ pushed_edges p steps g r inputs frontier first)
    × (at.edges ≡ length (all_with p steps g inputs frontier))
    × (at.total ≡ reduction_of_numbers r (all_with p steps g inputs frontier))
