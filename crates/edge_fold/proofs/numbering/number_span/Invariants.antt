use Rattle.std.proofs.Common.{length, ◌-◌}
use Rattle.past_model.specs.Past.{graph_of}
use Rattle.edge_fold.specs.Kept.{IsFor}
use Rattle.edge_fold.proofs.Written.{IsWritten}
use Rattle.edge_fold.proofs.numbering.number_span.Given as goal
use Rattle.edge_fold.specs.Inputs.{inputs_of}

abbrev pub invariant-rounds : goal.invariant-rounds
invariant-rounds l = IsWritten l.mapped.program.now (graph_of l.mapped.version.now) (inputs_of l.mapped) l.span.source l.span.place l.span.targets.now l.numbers l.at × IsFor l.mapped.program.now l.memory

abbrev pub decreases-rounds : goal.decreases-rounds
decreases-rounds l = length l.span.targets.now - l.at
