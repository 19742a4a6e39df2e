use Rattle.past_model.specs.Past.{graph_of}
use Rattle.edge_fold.specs.Kept.{AreNumbered}
use Rattle.edge_fold.proofs.Numbers.{IsFolded}
use Rattle.edge_fold.proofs.few.fold_kept.Given as goal
use Rattle.edge_fold.specs.Inputs.{inputs_of}

abbrev pub invariant-targets : goal.invariant-targets
invariant-targets l = record {
  folded : IsFolded l.reduction l.mapped.program.now (graph_of l.mapped.version.now) (inputs_of l.mapped) l.span.source l.span.place l.span.targets.now l.at l.so_far;
  kept : AreNumbered l.mapped.program.now (graph_of l.mapped.version.now) (inputs_of l.mapped) l.kept;
}
