-- Laws of maps. Each is the contract of a public function.
use Rattle.std.specs.Prelude.{◌≡◌, ℕ, List, length}
use Rattle.std.specs.List.{sum_by}
use Rattle.bpf_image.specs.Program.{Program}
use Rattle.graph_model.specs.Graph.{Graph, degree, edge_count}
use Rattle.map_model.specs.EdgeMap.{Inputs, all_with, listed_edges}
use Rattle.verifier.specs.Walks.{longest}

-- no run is left out: a map over a frontier has as many numbers as its vertices have neighbours
abbrev pub EveryEdgeHasItsNumber : Program → Graph → Inputs → Type 0
EveryEdgeHasItsNumber p g inputs =
    (frontier : List ℕ) → length (all_with p (longest p) g inputs frontier) ≡ sum_by (degree g) frontier

-- and the list of all edges has as many entries as there are edges
abbrev pub EveryEdgeIsListed : Program → Graph → List ℕ → Type 0
EveryEdgeIsListed p g argument = length (listed_edges p (longest p) g argument) ≡ edge_count g
