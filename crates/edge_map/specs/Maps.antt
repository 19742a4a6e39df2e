-- What is answered for a map over the edges of a frontier.
use Rattle.std.specs.Prelude.{◌≡◌, ℕ, ◌+◌, ◌<◌, List, length, All, Result, Ok, Err}
use Rattle.std.specs.List.Sorted.{IsStrictlyIncreasing}
use Rattle.bpf_image.specs.Program.{Program}
use Rattle.map_model.specs.declared.reduction.Reduction.{Reduction}
use Rattle.map_model.specs.EdgeMap.{all_numbers, rows_of, reduction_of_numbers}
use Rattle.graph_model.specs.Graph.{Graph}
use Rattle.map_model.specs.declared.limits.TheConstants.{EDGE_BYTES}
use Rattle.verifier.specs.Walks.{longest}
use Rattle.edge_fold.specs.declared.outcome.MapOutcome.{MapOutcome}
use Rattle.edge_fold.specs.declared.rows.Rows.{Rows}
use Rattle.edge_fold.specs.Rows.{reported_rows}
use Rattle.edge_map.specs.declared.errors.MapError.{MapError}
use Rattle.edge_map.specs.declared.errors.MapError.TheVariants.{ArgumentLength, Frontier, OutOfMemory, WorkerRefused}

-- how many exit numbers there are, what all of them reduce to, and the rows that are reported
pub record IsMap (rows : Rows) (p : Program) (g : Graph) (r : Reduction) (argument frontier : List ℕ) (out : MapOutcome) : Type 0 where
  pub edges : out.edges ≡ length (all_numbers p (longest p) g argument frontier)
  pub total : out.total ≡ reduction_of_numbers r (all_numbers p (longest p) g argument frontier)
  pub reported : out.rows.items ≡ reported_rows rows g (rows_of p (longest p) g r argument frontier)

-- vertices of a graph with so many, each below the next one
abbrev pub IsFrontier : ℕ → List ℕ → Type 0
IsFrontier vertices frontier = IsStrictlyIncreasing frontier × All (λ v. v < vertices) frontier

abbrev pub FitsRecord : Program → List ℕ → Type 0
FitsRecord p argument = length argument + EDGE_BYTES ≡ p.record_length

-- the argument and the frontier pass both tests
abbrev pub IsAllowed : Program → Graph → List ℕ → List ℕ → Type 0
IsAllowed p g argument frontier = FitsRecord p argument × IsFrontier g.vertex_count frontier

-- the map, or the first test that fails; for lack of memory or of a worker neither fails
abbrev pub IsMapped : Rows → Program → Graph → Reduction → List ℕ → List ℕ → Result MapOutcome MapError → Type 0
IsMapped rows p g r argument frontier (Ok out) = IsAllowed p g argument frontier × IsMap rows p g r argument frontier out
IsMapped rows p g r argument frontier (Err ArgumentLength) = FitsRecord p argument → ⊥
IsMapped rows p g r argument frontier (Err Frontier) =
    FitsRecord p argument × (IsFrontier g.vertex_count frontier → ⊥)
IsMapped rows p g r argument frontier (Err OutOfMemory) = IsAllowed p g argument frontier
IsMapped rows p g r argument frontier (Err WorkerRefused) = IsAllowed p g argument frontier
