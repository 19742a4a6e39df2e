use Rattle.std.proofs.Common.{◌≡◌, ◌-◌, length}
use Rattle.past_model.specs.Past.{graph_of}
use Rattle.edge_fold.specs.Inputs.{inputs_of}
use Rattle.edge_fold.specs.Kept.{AreNumbered}
use Rattle.edge_fold.proofs.Pushed.{IsCarried}
use Rattle.edge_fold.proofs.rounds.push_kept.Given as goal

abbrev pub invariant-targets : goal.invariant-targets
invariant-targets l = record {
  carried : IsCarried l.reduction l.mapped.program.now (graph_of l.mapped.version.now) (inputs_of l.mapped) l.span.source l.span.place l.span.targets.now l.at l.so_far l.fn.values l.values;
  long : length l.values ≡ length l.fn.values;
  kept : AreNumbered l.mapped.program.now (graph_of l.mapped.version.now) (inputs_of l.mapped) l.kept;
}

abbrev pub decreases-targets : goal.decreases-targets
decreases-targets l = length l.span.targets.now - l.at
