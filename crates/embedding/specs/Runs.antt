-- A run over a frontier, as a host asks for it.
use Rattle.std.specs.Prelude.{◌≡◌, ◌≢◌, ℕ, ◌==◌, ◌&&◌, nat_le, if◌then◌else◌, List, length, map, Option, Some, None}
use Rattle.bpf_image.specs.Program.{Program}
use Rattle.graph_model.specs.Graph.{Graph}
use Rattle.map_model.specs.declared.reduction.Reduction.{Reduction}
use Rattle.map_model.specs.declared.reduction.Reduction.TheVariants.{Min, Max, Sum}
use Rattle.map_model.specs.declared.row.Row.{Row}
use Rattle.map_model.specs.EdgeMap.{Inputs, plain, all_with, reduction_of_numbers, rows_with}
use Rattle.verifier.specs.Walks.{longest}
use Rattle.past_model.specs.declared.limits.TheConstants.{MOST_VERTICES}
use Rattle.embedding.specs.declared.statuses.TheConstants.{DONE, REDUCTION, LENGTHS}
use Rattle.embedding.specs.Lent.{lent_status}
use Rattle.embedding.specs.declared.runs.Totals.{Totals}

-- the reduction of a number
abbrev pub reduction_at : ℕ → Option Reduction
reduction_at n = if n == 0 then Some Sum else if n == 1 then Some Min else if n == 2 then Some Max else None

-- the values of rows
abbrev pub values_of : List Row → List ℕ
values_of rows = map (λ (row : Row). row.value) rows

-- what a run writes: one value for each vertex, and all together
pub record IsTold (g : Graph) (p : Program) (inputs : Inputs) (frontier : List ℕ) (r : Reduction) (values : List ℕ) (totals : Totals) : Type 0 where
  pub values_are : values ≡ values_of (rows_with p (longest p) g r inputs frontier)
  pub edges : totals.edges ≡ length (all_with p (longest p) g inputs frontier)
  pub total : totals.total ≡ reduction_of_numbers r (all_with p (longest p) g inputs frontier)

-- a reduction that there is, then one value for each vertex of a frontier that is not too long, then columns and an argument that
-- fit
abbrev pub pull_status : Graph → Program → Inputs → (frontier values : List ℕ) → Option Reduction → ℕ
pull_status g p inputs frontier values None = REDUCTION
pull_status g p inputs frontier values (Some r) =
    if (length values == length frontier) && nat_le (length frontier) MOST_VERTICES then lent_status g p inputs else LENGTHS

-- the status is that of the first test that fails. A run that is done writes its numbers, and else nothing is written
pub record IsPull (g : Graph) (p : Program) (inputs : Inputs) (frontier : List ℕ) (reduction : ℕ) (status : ℕ) (values : List ℕ) (totals : Totals) (new_values : List ℕ) (new_totals : Totals) : Type 0 where
  pub status_is : status ≡ pull_status g p inputs frontier values (reduction_at reduction)
  pub done : (r : Reduction) → reduction_at reduction ≡ Some r → status ≡ DONE → IsTold g p inputs frontier r new_values new_totals
  pub left : status ≢ DONE → (new_values ≡ values) × (new_totals ≡ totals)

-- the same without columns
abbrev pub IsRun : Graph → Program → (argument frontier : List ℕ) → (reduction status : ℕ) → (values : List ℕ) → Totals → (new_values : List ℕ) → Totals → Type 0
IsRun g p argument frontier reduction status values totals new_values new_totals =
    IsPull g p (plain argument) frontier reduction status values totals new_values new_totals
