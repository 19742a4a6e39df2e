use Rattle.std.proofs.Common.{◌+◌, ◌-◌, ◌*◌, ◌≤◌, length}
use Rattle.past_model.specs.Past.{graph_of}
use Rattle.verifier.specs.Walks.{longest}
use Rattle.edge_fold.specs.declared.budget.TheConstants.{EDGE_COST}
use Rattle.edge_fold.specs.Kept.{IsFor}
use Rattle.edge_fold.proofs.Filled.{IsFilled}
use Rattle.edge_fold.proofs.numbers_some.number_span_some.Given as goal
use Rattle.edge_fold.specs.Inputs.{inputs_of}

abbrev pub invariant-rounds : goal.invariant-rounds
invariant-rounds l = record {
  filled : IsFilled l.mapped.program.now (graph_of l.mapped.version.now) (inputs_of l.mapped) l.span.source l.span.place l.span.targets.now l.fn.numbers l.numbers l.at;
  paid : l.fn.memory.budget ≤ l.memory.budget + (longest l.mapped.program.now + EDGE_COST) * l.at;
  spent : l.memory.budget ≤ l.fn.memory.budget - EDGE_COST * l.at;
  memory : IsFor l.mapped.program.now l.memory;
}

abbrev pub decreases-rounds : goal.decreases-rounds
decreases-rounds l = length l.span.targets.now - l.at
