use Rattle.std.proofs.Common.{◌≡◌, ◌+◌, ◌-◌, ◌*◌, ◌≤◌, length}
use Rattle.past_model.specs.Past.{graph_of}
use Rattle.verifier.specs.Walks.{longest}
use Rattle.edge_fold.specs.declared.budget.TheConstants.{EDGE_COST}
use Rattle.edge_fold.specs.Inputs.{inputs_of}
use Rattle.edge_fold.specs.Kept.{AreNumbered, IsFor}
use Rattle.edge_fold.proofs.Pushed.{IsCarried}
use Rattle.edge_fold.proofs.pushes.push_slice.Given as goal

abbrev pub invariant-rounds : goal.invariant-rounds
invariant-rounds l = record {
  carried : IsCarried l.reduction l.mapped.program.now (graph_of l.mapped.version.now) (inputs_of l.mapped) l.span.source l.span.place l.span.targets.now l.at l.so_far l.fn.values l.values;
  long : length l.values ≡ length l.fn.values;
  paid : l.fn.memory.budget ≤ l.memory.budget + (longest l.mapped.program.now + EDGE_COST) * l.at;
  spent : l.memory.budget ≤ l.fn.memory.budget - EDGE_COST * l.at;
  memory : IsFor l.mapped.program.now l.memory;
  kept : AreNumbered l.mapped.program.now (graph_of l.mapped.version.now) (inputs_of l.mapped) l.memory.kept;
}

abbrev pub decreases-rounds : goal.decreases-rounds
decreases-rounds l = length l.span.targets.now - l.at
