-- What a host lends the runs of a program besides their edges.
use Rattle.std.specs.Prelude.{◌≡◌, ℕ, ◌+◌, ◌*◌, ◌≤◌, ◌==◌, if◌then◌else◌, length}
use Rattle.bpf_image.specs.Program.{Program}
use Rattle.graph_model.specs.Graph.{Graph}
use Rattle.map_model.specs.EdgeMap.{Inputs}
use Rattle.map_model.specs.declared.limits.TheConstants.{EDGE_BYTES, COLUMN_BYTES, MOST_COLUMNS}
use Rattle.edge_fold.specs.Inputs.{inputs_from, are_columns}
use Rattle.embedding.specs.declared.runnable.Lent.{Lent}
use Rattle.embedding.specs.declared.statuses.TheConstants.{DONE, ARGUMENT_LENGTH, COLUMNS}

-- the argument and the columns
abbrev pub lent_of : Lent → Inputs
lent_of lent = inputs_from lent.argument.now lent.columns.now

-- they fill a program's record, with the edge before them
pub record FitRecords (p : Program) (inputs : Inputs) : Type 0 where
  pub length_is : length inputs.argument + EDGE_BYTES + COLUMN_BYTES * length inputs.columns ≡ p.record_length
  pub few : length inputs.columns ≤ MOST_COLUMNS

-- columns that a graph's runs can be lent, then an argument of the program's length less what the columns take
abbrev pub lent_status : Graph → Program → Inputs → ℕ
lent_status g p inputs =
    if are_columns g.vertex_count inputs.columns
    then (if length inputs.argument + EDGE_BYTES + COLUMN_BYTES * length inputs.columns == p.record_length then DONE else ARGUMENT_LENGTH)
    else COLUMNS
