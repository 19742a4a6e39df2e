use Rattle.std.proofs.Common.{◌+◌, ◌-◌, length}
use Rattle.past_model.specs.Past.{graph_of}
use Rattle.edge_fold.proofs.Numbers.{IsFolded}
use Rattle.edge_fold.proofs.fold.fold_slice.Given as goal
use Rattle.edge_fold.specs.Inputs.{inputs_of}

abbrev pub invariant-rounds : goal.invariant-rounds
invariant-rounds l = IsFolded l.reduction l.mapped.program.now (graph_of l.mapped.version.now) (inputs_of l.mapped) l.span.source l.span.place l.span.targets.now l.at l.so_far

abbrev pub decreases-rounds : goal.decreases-rounds
decreases-rounds l = length l.span.targets.now - l.at

abbrev pub invariant-lanes : goal.invariant-lanes
invariant-lanes l = IsFolded l.reduction l.mapped.program.now (graph_of l.mapped.version.now) (inputs_of l.mapped) l.span.source l.span.place l.span.targets.now (l.at + l.lane) l.so_far
