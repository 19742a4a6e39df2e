-- What a version writes to arrays: all its edges, and the number of each.
use Rattle.std.specs.Prelude.{◌≡◌, ◌≢◌, ℕ, ◌+◌, ◌==◌, ◌&&◌, if◌then◌else◌, List, length, map}
use Rattle.std.specs.List.{flat_map}
use Rattle.bpf_image.specs.Program.{Program}
use Rattle.graph_model.specs.Graph.{Graph, numbers_below, neighbours, count_pairs, edge_count}
use Rattle.map_model.specs.declared.limits.TheConstants.{EDGE_BYTES}
use Rattle.map_model.specs.EdgeMap.{all_numbers}
use Rattle.verifier.specs.Walks.{longest}
use Rattle.embedding.specs.declared.statuses.TheConstants.{DONE, LENGTHS, ARGUMENT_LENGTH}

-- the place at which each vertex's edges begin among all edges, and the end of them all
abbrev pub starts_of : Graph → List ℕ
starts_of g = map (λ v. count_pairs v g.vertex_count g.has_edge) (numbers_below (g.vertex_count + 1))

-- the targets of all edges, vertex after vertex
abbrev pub targets_of : Graph → List ℕ
targets_of g = flat_map (neighbours g) (numbers_below g.vertex_count)

-- one place for each vertex and one more, and one for each edge
abbrev pub copy_status : Graph → List ℕ → List ℕ → ℕ
copy_status g starts targets = if (length starts == g.vertex_count + 1) && (length targets == edge_count g) then DONE else LENGTHS

pub record IsCopy (g : Graph) (status : ℕ) (starts targets new_starts new_targets : List ℕ) : Type 0 where
  pub status_is : status ≡ copy_status g starts targets
  pub done : status ≡ DONE → (new_starts ≡ starts_of g) × (new_targets ≡ targets_of g)
  pub left : status ≢ DONE → (new_starts ≡ starts) × (new_targets ≡ targets)

-- one place for each edge, then an argument of the program's length
abbrev pub numbers_status : Graph → Program → List ℕ → List ℕ → ℕ
numbers_status g p argument numbers =
    if length numbers == edge_count g then (if length argument + EDGE_BYTES == p.record_length then DONE else ARGUMENT_LENGTH) else LENGTHS

pub record AreNumbers (g : Graph) (p : Program) (argument : List ℕ) (status : ℕ) (numbers new_numbers : List ℕ) : Type 0 where
  pub status_is : status ≡ numbers_status g p argument numbers
  pub done : status ≡ DONE → new_numbers ≡ all_numbers p (longest p) g argument (numbers_below g.vertex_count)
  pub left : status ≢ DONE → new_numbers ≡ numbers
