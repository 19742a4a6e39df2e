-- What is answered of a version.
use Rattle.std.specs.Prelude.{◌≡◌, ℕ, Bool, true, false, Option, Some, None, slice_get}
use Rattle.graph_model.specs.Graph.{Graph, neighbours, edge_count}
use Rattle.past_model.specs.Past.{Past, graph_of, number_of, epoch_of}
use Rattle.embedding.specs.declared.statuses.TheConstants.{DONE, NO_NEIGHBOUR}
use Rattle.embedding.specs.declared.questions.Info.{Info}

-- its number, its edges, its epoch and its vertices
abbrev pub info_of : Past → Info
info_of p = record { number = number_of p; edges = edge_count (graph_of p); epoch = epoch_of p; vertices = p.vertex_count }

-- a yes as a number
abbrev pub answer_of : Bool → ℕ
answer_of true = 1
answer_of false = 0

-- the neighbour there is written; or there is none, and then nothing is written
abbrev pub found_neighbour : Option ℕ → ℕ → ℕ → ℕ → Type 0
found_neighbour (Some v) status before after = (status ≡ DONE) × (after ≡ v)
found_neighbour None status before after = (status ≡ NO_NEIGHBOUR) × (after ≡ before)

abbrev pub IsNeighbour : Graph → ℕ → ℕ → ℕ → ℕ → ℕ → Type 0
IsNeighbour g vertex place status before after = found_neighbour (slice_get (neighbours g vertex) place) status before after
