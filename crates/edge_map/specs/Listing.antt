-- All edges of a graph, and the number that a program exits with for each.
use Rattle.std.specs.Prelude.{◌≡◌, ℕ, ◌+◌, List, [], ◌∷◌, Option, Result, Ok, Err}
use Rattle.std.specs.List.{flat_map, filter_map}
use Rattle.bpf_image.specs.Program.{Program}
use Rattle.bpf_model.specs.Run.{number_for}
use Rattle.map_model.specs.EdgeMap.{edge_record, edge_with_number, listed_edges}
use Rattle.graph_model.specs.Graph.{Graph, numbers_below, neighbours, degree}
use Rattle.verifier.specs.Walks.{longest}
use Rattle.edge_fold.specs.declared.edge.Edge.{Edge}
use Rattle.edge_map.specs.declared.errors.MapError.{MapError}
use Rattle.edge_map.specs.declared.errors.MapError.TheVariants.{ArgumentLength, Frontier, OutOfMemory, WorkerRefused}
use Rattle.map_model.specs.declared.listed_edge.ListedEdge.{ListedEdge}
use Rattle.edge_map.specs.Maps.{FitsRecord}

-- the edges from a source to some of its neighbours, of which the first stands at a place
abbrev pub edges_from : Graph → ℕ → ℕ → List ℕ → List Edge
edges_from g source place [] = []
edges_from g source place (target ∷ targets) =
    record { source = source; target = target; place = place; degree = degree g source }
    ∷ edges_from g source (place + 1) targets

-- a vertex's edges, targets ascending
abbrev pub edges_of : Graph → ℕ → List Edge
edges_of g source = edges_from g source 0 (neighbours g source)

-- all edges of a graph, sources ascending
abbrev pub all_edges : Graph → List Edge
all_edges g = flat_map (edges_of g) (numbers_below g.vertex_count)

-- an edge with its exit number, if its run exits within so many steps
abbrev pub listed_edge_of : Program → ℕ → Graph → List ℕ → Edge → Option ListedEdge
listed_edge_of p steps g argument e =
    edge_with_number e.source e.target (number_for p steps g (edge_record g e.source e.target e.place argument))

-- some edges with their exit numbers
abbrev pub listing : Program → Graph → List ℕ → List Edge → List ListedEdge
listing p g argument edges = filter_map (listed_edge_of p (longest p) g argument) edges

-- all edges of the graph with their exit numbers are still to be listed, or the argument does not fit
abbrev pub IsListed : Program → Graph → List ℕ → Result (List ListedEdge) MapError → Type 0
IsListed p g argument (Ok left) = FitsRecord p argument × (left ≡ listed_edges p (longest p) g argument)
IsListed p g argument (Err ArgumentLength) = FitsRecord p argument → ⊥
IsListed p g argument (Err Frontier) = ⊥
IsListed p g argument (Err OutOfMemory) = ⊥
IsListed p g argument (Err WorkerRefused) = ⊥
