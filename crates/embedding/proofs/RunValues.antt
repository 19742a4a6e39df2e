-- The values that a run writes are those of its rows.
use Rattle.std.proofs.Common.{◌≡◌, ℕ, List, [], ◌∷◌, refl, ap}
use Rattle.bpf_image.specs.Program.{Program}
use Rattle.graph_model.specs.Graph.{Graph}
use Rattle.map_model.specs.declared.reduction.Reduction.{Reduction}
use Rattle.map_model.specs.EdgeMap.{Inputs, exits_with, reduction_of_numbers, rows_with}
use Rattle.map_model.specs.Parts.{values_for}
use Rattle.embedding.specs.Runs.{values_of}

pub values_of_rows : (p : Program) (steps : ℕ) (g : Graph) (r : Reduction) (inputs : Inputs) (frontier : List ℕ)
    → values_for p steps g r inputs frontier ≡ values_of (rows_with p steps g r inputs frontier)
values_of_rows p steps g r inputs [] = refl
values_of_rows p steps g r inputs (v ∷ vs) =
    ap (λ values. reduction_of_numbers r (exits_with p steps g inputs v) ∷ values) (values_of_rows p steps g r inputs vs)
