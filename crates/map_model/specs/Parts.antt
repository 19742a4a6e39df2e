-- A map over a frontier in parts: what the edges before a place have together.
use Rattle.std.specs.Prelude.{◌≡◌, ℕ, ◌+◌, ◌*◌, ◌<◌, ◌≤◌, ◌⊎◌, List, [], ◌∷◌, ◌++◌, map, length, take, filter, if◌then◌else◌, nat_lt, slice_index}
use Rattle.std.specs.List.{filter_map}
use Rattle.bpf_image.specs.Program.{Program}
use Rattle.bpf_model.specs.Run.{number_for}
use Rattle.graph_model.specs.Graph.{Graph, neighbours, degree}
use Rattle.graph_model.specs.Views.{is_edge}
use Rattle.map_model.specs.declared.reduction.Reduction.{Reduction}
use Rattle.map_model.specs.declared.progress.Progress.{Progress}
use Rattle.map_model.specs.EdgeMap.{Inputs, input_record, numbers_with, exits_with, all_with, reduction_of_numbers}

-- a place in a frontier: an edge of one of its vertices, the end of these edges, or the frontier's end
pub record IsPlace (g : Graph) (frontier : List ℕ) (at : Progress) : Type 0 where
  pub inside : at.vertex ≤ length frontier
  pub within : at.place ≤ degree g (slice_index frontier at.vertex)
  pub ended : at.vertex ≡ length frontier → at.place ≡ 0

-- an edge at least, or a vertex, lies between
abbrev pub IsBefore : Progress → Progress → Type 0
IsBefore a b = (a.vertex < b.vertex) ⊎ ((a.vertex ≡ b.vertex) × (a.place < b.place))

-- the exit numbers of a vertex's first edges
abbrev pub first_exits : Program → ℕ → Graph → Inputs → (source count : ℕ) → List ℕ
first_exits p steps g inputs source count =
    filter_map (λ number. number) (numbers_with p steps g inputs source 0 (take count (neighbours g source)))

-- those of a frontier's edges before a place, one vertex after another
abbrev pub numbers_before : Program → ℕ → Graph → Inputs → List ℕ → Progress → List ℕ
numbers_before p steps g inputs frontier at =
    all_with p steps g inputs (take at.vertex frontier) ++ first_exits p steps g inputs (slice_index frontier at.vertex) at.place

-- what each vertex's edges reduce to
abbrev pub values_for : Program → ℕ → Graph → Reduction → Inputs → List ℕ → List ℕ
values_for p steps g r inputs frontier = map (λ v. reduction_of_numbers r (exits_with p steps g inputs v)) frontier

-- What a map that has come to a place has written: the value of each vertex before it, and of the next one that of its first
-- edges; how many edges lie before the place, and what their numbers reduce to. It does not say how the map was cut.
pub record IsSoFar (p : Program) (steps : ℕ) (g : Graph) (r : Reduction) (inputs : Inputs) (frontier : List ℕ) (at : Progress) (values : List ℕ) : Type 0 where
  pub values_are : take at.vertex values ≡ values_for p steps g r inputs (take at.vertex frontier)
  pub value_is : 0 < at.place → slice_index values at.vertex ≡ reduction_of_numbers r (first_exits p steps g inputs (slice_index frontier at.vertex) at.place)
  pub edges_are : at.edges ≡ length (numbers_before p steps g inputs frontier at)
  pub total_is : at.total ≡ reduction_of_numbers r (numbers_before p steps g inputs frontier at)

-- a map is at its beginning, or has written what it should have
abbrev pub HasBegun : Program → ℕ → Graph → Reduction → Inputs → (frontier : List ℕ) → Progress → List ℕ → Type 0
HasBegun p steps g r inputs frontier at values =
    ((at.vertex ≡ 0) × (at.place ≡ 0)) ⊎ IsSoFar p steps g r inputs frontier at values

-- at the frontier's end that is what a map of the whole frontier gives
abbrev pub PartsAreTheWhole : Type 0
PartsAreTheWhole =
    (p : Program) (steps : ℕ) (g : Graph) (r : Reduction) (inputs : Inputs) (frontier : List ℕ) (at : Progress) (values : List ℕ)
    → IsSoFar p steps g r inputs frontier at values → IsPlace g frontier at → at.vertex ≡ length frontier → length values ≡ length frontier
    → (values ≡ values_for p steps g r inputs frontier)
    × (at.edges ≡ length (all_with p steps g inputs frontier))
    × (at.total ≡ reduction_of_numbers r (all_with p steps g inputs frontier))

-- what the edges and the vertices before a place cost, if each edge costs so much and each vertex
abbrev pub cost_before : (edge_cost vertex_cost : ℕ) → Program → ℕ → Graph → Inputs → List ℕ → Progress → ℕ
cost_before edge_cost vertex_cost p steps g inputs frontier at =
    edge_cost * length (numbers_before p steps g inputs frontier at) + vertex_cost * at.vertex

-- the place of a vertex among another's neighbours; where it is none of them, how many these are
abbrev pub place_of : Graph → (source target : ℕ) → ℕ
place_of g source target =
    if is_edge g source target then length (filter (λ w. nat_lt w target) (neighbours g source)) else degree g source

-- the exit numbers of pairs of vertices, which need not be edges, as far as runs exit
abbrev pub pair_numbers : Program → ℕ → Graph → Inputs → (sources targets : List ℕ) → List ℕ
pair_numbers p steps g inputs [] targets = []
pair_numbers p steps g inputs (source ∷ sources) [] = []
pair_numbers p steps g inputs (source ∷ sources) (target ∷ targets) =
    filter_map (λ number. number) (number_for p steps g (input_record g source target (place_of g source target) inputs) ∷ [])
    ++ pair_numbers p steps g inputs sources targets
