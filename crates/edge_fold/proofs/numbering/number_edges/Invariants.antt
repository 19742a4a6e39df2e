use Rattle.past_model.specs.Past.{graph_of}
use Rattle.edge_fold.specs.Kept.{IsFor}
use Rattle.edge_fold.proofs.Written.{AreWritten}
use Rattle.edge_fold.proofs.numbering.number_edges.Given as goal
use Rattle.edge_fold.specs.Inputs.{inputs_of}

abbrev pub invariant-sources : goal.invariant-sources
invariant-sources l = AreWritten l.mapped.program.now (graph_of l.mapped.version.now) (inputs_of l.mapped) l.numbers l.source l.at × IsFor l.mapped.program.now l.memory
