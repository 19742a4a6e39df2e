-- A push over a frontier, in one call or in parts, as a host asks for it.
use Rattle.std.specs.Prelude.{◌≡◌, ◌≢◌, ℕ, ◌<◌, ◌==◌, ◌&&◌, nat_le, if◌then◌else◌, Bool, List, length, Option, Some, None}
use Rattle.bpf_image.specs.Program.{Program}
use Rattle.graph_model.specs.Graph.{Graph}
use Rattle.map_model.specs.declared.progress.Progress.{Progress}
use Rattle.map_model.specs.declared.reduction.Reduction.{Reduction}
use Rattle.map_model.specs.EdgeMap.{Inputs, all_with, reduction_of_numbers}
use Rattle.map_model.specs.Parts.{IsBefore}
use Rattle.map_model.specs.PushParts.{pushed_edges, IsPushedSoFar, HasBegunPush}
use Rattle.past_model.specs.declared.limits.TheConstants.{MOST_VERTICES}
use Rattle.verifier.specs.Walks.{longest}
use Rattle.embedding.specs.Lent.{lent_status}
use Rattle.embedding.specs.Parts.{GoesOn, is_place, place_status}
use Rattle.embedding.specs.Runs.{reduction_at}
use Rattle.embedding.specs.declared.runs.Totals.{Totals}
use Rattle.embedding.specs.declared.statuses.TheConstants.{DONE, REDUCTION, LENGTHS}

-- one value for each vertex of the graph, and a frontier that is not too long
abbrev pub have_push_lengths : Graph → (frontier values : List ℕ) → Bool
have_push_lengths g frontier values = (length values == g.vertex_count) && nat_le (length frontier) MOST_VERTICES

-- a reduction that there is, then these lengths, then columns and an argument that fit
abbrev pub push_status : Graph → Program → Inputs → (frontier values : List ℕ) → Option Reduction → ℕ
push_status g p inputs frontier values None = REDUCTION
push_status g p inputs frontier values (Some r) = if have_push_lengths g frontier values then lent_status g p inputs else LENGTHS

-- the same, and then a progress that is at a place
abbrev pub push_some_status : Graph → Program → Inputs → (frontier values : List ℕ) → Progress → Option Reduction → ℕ
push_some_status g p inputs frontier values at None = REDUCTION
push_some_status g p inputs frontier values at (Some r) =
    if have_push_lengths g frontier values then place_status g p inputs (is_place g frontier at) else LENGTHS

-- what a push leaves of the values before it, and all numbers together
pub record IsPushed (g : Graph) (p : Program) (inputs : Inputs) (frontier : List ℕ) (r : Reduction) (values new_values : List ℕ) (totals : Totals) : Type 0 where
  pub values_are : new_values ≡ pushed_edges p (longest p) g r inputs frontier values
  pub edges : totals.edges ≡ length (all_with p (longest p) g inputs frontier)
  pub total : totals.total ≡ reduction_of_numbers r (all_with p (longest p) g inputs frontier)

-- the status is that of the first test that fails. A push that is done has pushed its numbers, and else nothing is written
pub record IsPush (g : Graph) (p : Program) (inputs : Inputs) (frontier : List ℕ) (reduction status : ℕ) (values : List ℕ) (totals : Totals) (new_values : List ℕ) (new_totals : Totals) : Type 0 where
  pub status_is : status ≡ push_status g p inputs frontier values (reduction_at reduction)
  pub done : (r : Reduction) → reduction_at reduction ≡ Some r → status ≡ DONE → IsPushed g p inputs frontier r values new_values new_totals
  pub left : status ≢ DONE → (new_values ≡ values) × (new_totals ≡ totals)

-- what a call does for a push under way
pub record IsPushSome (g : Graph) (p : Program) (inputs : Inputs) (frontier : List ℕ) (reduction status : ℕ) (old new : Progress) (values new_values : List ℕ) : Type 0 where
  pub status_is : status ≡ push_some_status g p inputs frontier values old (reduction_at reduction)
  pub so_far : (r : Reduction) → reduction_at reduction ≡ Some r → status ≡ DONE → (first : List ℕ)
      → HasBegunPush p (longest p) g r inputs frontier old first values → IsPushedSoFar p (longest p) g r inputs frontier new first new_values
  pub on : status ≡ DONE → old.vertex < length frontier → IsBefore old new
  pub goes_on : status ≡ DONE → GoesOn g p inputs frontier old new ⊥
  pub left : status ≢ DONE → (new_values ≡ values) × (new ≡ old)
