use Rattle.std.proofs.Common.{◌≡◌, length, drop}
use Rattle.graph_model.specs.Graph.{neighbours}
use Rattle.past_model.specs.Past.{graph_of}
use Rattle.edge_fold.specs.Kept.{IsFor}
use Rattle.edge_fold.proofs.Written.{IsWritten}
use Rattle.edge_fold.proofs.numbering.number_vertex.Given as goal
use Rattle.edge_fold.specs.Inputs.{inputs_of}

abbrev pub invariant-slices : goal.invariant-slices
invariant-slices l = record {
  rest : drop l.place (neighbours (graph_of l.mapped.version.now) l.source) ≡ l.rest;
  memory : IsFor l.mapped.program.now l.memory;
  written : IsWritten l.mapped.program.now (graph_of l.mapped.version.now) (inputs_of l.mapped) l.source 0 (neighbours (graph_of l.mapped.version.now) l.source) l.numbers l.place;
}

abbrev pub decreases-slices : goal.decreases-slices
decreases-slices l = length l.rest
