-- Runs that pause and go on, numbers of a frontier and numbers of pairs, as a host asks for them.
use Rattle.std.specs.Prelude.{◌≡◌, ◌≢◌, ℕ, ◌+◌, ◌-◌, ◌*◌, ◌^◌, ◌%◌, ◌<◌, ◌≤◌, ◌⊎◌, Bool, ◌==◌, ◌&&◌, nat_lt, nat_le, if◌then◌else◌, List, ◌++◌, length, take, drop, slice_index, slice_range, Option, Some, None}
use Rattle.bpf_image.specs.Program.{Program}
use Rattle.graph_model.specs.Graph.{Graph, degree}
use Rattle.map_model.specs.EdgeMap.{Inputs, plain}
use Rattle.map_model.specs.declared.progress.Progress.{Progress}
use Rattle.map_model.specs.declared.reduction.Reduction.{Reduction}
use Rattle.map_model.specs.Parts.{IsPlace, IsBefore, IsSoFar, HasBegun, numbers_before, cost_before, pair_numbers}
use Rattle.past_model.specs.declared.limits.TheConstants.{MOST_VERTICES}
use Rattle.verifier.specs.Walks.{longest}
use Rattle.edge_fold.specs.declared.budget.TheConstants.{EDGE_COST, VERTEX_COST}
use Rattle.embedding.specs.Lent.{lent_status}
use Rattle.embedding.specs.Runs.{reduction_at}
use Rattle.embedding.specs.declared.statuses.TheConstants.{DONE, REDUCTION, LENGTHS, PROGRESS}

-- whether a progress is at a place of a frontier: an edge of one of its vertices, the end of these, or the frontier's end
abbrev pub is_place : Graph → List ℕ → Progress → Bool
is_place g frontier at =
    if nat_lt at.vertex (length frontier)
    then nat_le at.place (degree g (slice_index frontier at.vertex))
    else (at.vertex == length frontier) && (at.place == 0)

-- columns and an argument that fit, then a progress that is at a place
abbrev pub place_status : Graph → Program → Inputs → Bool → ℕ
place_status g p inputs there = if lent_status g p inputs == DONE then (if there then DONE else PROGRESS) else lent_status g p inputs

-- a reduction that there is, then one value for each vertex of a frontier that is not too long, then these
abbrev pub pull_some_status : Graph → Program → Inputs → (frontier values : List ℕ) → Progress → Option Reduction → ℕ
pull_some_status g p inputs frontier values at None = REDUCTION
pull_some_status g p inputs frontier values at (Some r) =
    if (length values == length frontier) && nat_le (length frontier) MOST_VERTICES then place_status g p inputs (is_place g frontier at) else LENGTHS

-- the most and the least that the edges and vertices before a place cost
abbrev pub most_of : Graph → Program → Inputs → (frontier : List ℕ) → Progress → ℕ
most_of g p inputs frontier at = cost_before (longest p + EDGE_COST) VERTEX_COST p (longest p) g inputs frontier at

abbrev pub least_of : Graph → Program → Inputs → (frontier : List ℕ) → Progress → ℕ
least_of g p inputs frontier at = cost_before EDGE_COST VERTEX_COST p (longest p) g inputs frontier at

-- what a call does for work over a frontier, whatever it writes: it goes on to a later place, and stops at the end, where the
-- budget is used up, or where the room is; and the budget falls by no more than the work may cost, and as far as it goes by no less
-- than it costs at least
pub record GoesOn (g : Graph) (p : Program) (inputs : Inputs) (frontier : List ℕ) (old new : Progress) (room : Type 0) : Type 0 where
  pub place : IsPlace g frontier new
  pub stops : (new.vertex ≡ length frontier) ⊎ (new.budget ≡ 0) ⊎ room
  pub cost : old.budget + most_of g p inputs frontier old ≤ new.budget + most_of g p inputs frontier new
  pub falls : new.budget ≤ old.budget + least_of g p inputs frontier old - least_of g p inputs frontier new

-- what a call does for a run under way
pub record IsPullSome (g : Graph) (p : Program) (inputs : Inputs) (frontier : List ℕ) (reduction status : ℕ) (old new : Progress) (values new_values : List ℕ) : Type 0 where
  pub status_is : status ≡ pull_some_status g p inputs frontier values old (reduction_at reduction)
  pub so_far : (r : Reduction) → reduction_at reduction ≡ Some r → status ≡ DONE
      → HasBegun p (longest p) g r inputs frontier old values → IsSoFar p (longest p) g r inputs frontier new new_values
  pub on : status ≡ DONE → old.vertex < length frontier → IsBefore old new
  pub goes_on : status ≡ DONE → GoesOn g p inputs frontier old new ⊥
  pub rest : status ≡ DONE → drop (new.vertex + 1) new_values ≡ drop (new.vertex + 1) values
  pub left : status ≢ DONE → (new_values ≡ values) × (new ≡ old)

-- a frontier that is not too long, then these
abbrev pub numbers_some_status : Graph → Program → Inputs → (frontier : List ℕ) → Progress → ℕ
numbers_some_status g p inputs frontier at = if nat_le (length frontier) MOST_VERTICES then place_status g p inputs (is_place g frontier at) else LENGTHS

-- what a call does for numbers under way, of which it writes so many
pub record AreNumbersWith (g : Graph) (p : Program) (inputs : Inputs) (frontier : List ℕ) (status : ℕ) (old new : Progress) (numbers new_numbers : List ℕ) (written new_written : ℕ) : Type 0 where
  pub status_is : status ≡ numbers_some_status g p inputs frontier old
  pub numbers_are : status ≡ DONE
      → numbers_before p (longest p) g inputs frontier new ≡ numbers_before p (longest p) g inputs frontier old ++ take new_written new_numbers
  pub rest : status ≡ DONE → drop new_written new_numbers ≡ drop new_written numbers
  pub room : status ≡ DONE → new_written ≤ length numbers
  pub edges : status ≡ DONE → new.edges ≡ (old.edges + new_written) % 2 ^ 64
  pub total : status ≡ DONE → new.total ≡ old.total
  pub on : status ≡ DONE → old.vertex < length frontier → 0 < length numbers → IsBefore old new
  pub goes_on : status ≡ DONE → GoesOn g p inputs frontier old new (new_written ≡ length numbers)
  pub left : status ≢ DONE → (new_numbers ≡ numbers) × (new_written ≡ written) × (new ≡ old)

-- as many targets as sources and as many numbers, and fewer than 2^32; then these
abbrev pub pairs_status : Graph → Program → Inputs → (sources targets numbers : List ℕ) → Progress → ℕ
pairs_status g p inputs sources targets numbers at =
    if (length targets == length sources) && ((length numbers == length sources) && nat_lt (length sources) (2 ^ 32))
    then place_status g p inputs (nat_le at.vertex (length sources) && (at.place == 0))
    else LENGTHS

-- what a call does for the numbers of pairs
pub record ArePairsWith (g : Graph) (p : Program) (inputs : Inputs) (sources targets : List ℕ) (status : ℕ) (old new : Progress) (numbers new_numbers : List ℕ) : Type 0 where
  pub status_is : status ≡ pairs_status g p inputs sources targets numbers old
  pub numbers_are : status ≡ DONE → take new.vertex new_numbers
      ≡ take old.vertex numbers ++ pair_numbers p (longest p) g inputs (slice_range sources old.vertex new.vertex) (slice_range targets old.vertex new.vertex)
  pub rest : status ≡ DONE → drop new.vertex new_numbers ≡ drop new.vertex numbers
  pub edges : status ≡ DONE → new.edges ≡ (old.edges + (new.vertex - old.vertex)) % 2 ^ 64
  pub total : status ≡ DONE → new.total ≡ old.total
  pub place : status ≡ DONE → (new.vertex ≤ length sources) × (new.place ≡ 0)
  pub on : status ≡ DONE → (old.vertex ≤ new.vertex) × (old.vertex < length sources → old.vertex < new.vertex)
  pub stops : status ≡ DONE → (new.vertex ≡ length sources) ⊎ (new.budget ≡ 0)
  pub cost : status ≡ DONE → old.budget + (longest p + EDGE_COST) * old.vertex ≤ new.budget + (longest p + EDGE_COST) * new.vertex
  pub falls : status ≡ DONE → new.budget ≤ old.budget + EDGE_COST * old.vertex - EDGE_COST * new.vertex
  pub left : status ≢ DONE → (new_numbers ≡ numbers) × (new ≡ old)

-- The same without columns.

abbrev pub IsRunSome : Graph → Program → (argument frontier : List ℕ) → (reduction status : ℕ) → (old new : Progress) → (values new_values : List ℕ) → Type 0
IsRunSome g p argument frontier reduction status old new values new_values =
    IsPullSome g p (plain argument) frontier reduction status old new values new_values

abbrev pub AreNumbersSome : Graph → Program → (argument frontier : List ℕ) → ℕ → (old new : Progress) → (numbers new_numbers : List ℕ) → (written new_written : ℕ) → Type 0
AreNumbersSome g p argument frontier status old new numbers new_numbers written new_written =
    AreNumbersWith g p (plain argument) frontier status old new numbers new_numbers written new_written

abbrev pub ArePairs : Graph → Program → (argument sources targets : List ℕ) → ℕ → (old new : Progress) → (numbers new_numbers : List ℕ) → Type 0
ArePairs g p argument sources targets status old new numbers new_numbers =
    ArePairsWith g p (plain argument) sources targets status old new numbers new_numbers
