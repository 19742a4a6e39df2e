use Rattle.std.proofs.Common.{◌≡◌, ◌+◌, ◌-◌, ◌*◌, ◌<◌, ◌≤◌, true, false, drop}
use Rattle.graph_model.specs.Graph.{neighbours}
use Rattle.past_model.specs.Past.{graph_of}
use Rattle.verifier.specs.Walks.{longest}
use Rattle.edge_fold.specs.declared.budget.TheConstants.{EDGE_COST}
use Rattle.edge_fold.specs.Kept.{IsFor}
use Rattle.edge_fold.proofs.Filled.{IsFilled}
use Rattle.edge_fold.proofs.numbers_some.number_part.Given as goal
use Rattle.edge_fold.specs.Inputs.{inputs_of}

abbrev pub invariant-slices : goal.invariant-slices
invariant-slices l = record {
  few : l.written ≤ l.most;
  rest : l.goes_on ≡ true → l.written < l.most → drop l.written (drop l.place (neighbours (graph_of l.mapped.version.now) l.source.vertex)) ≡ l.cursor;
  used : l.goes_on ≡ false → (0 < l.written) × (l.memory.budget ≡ 0);
  filled : IsFilled l.mapped.program.now (graph_of l.mapped.version.now) (inputs_of l.mapped) l.source.vertex l.place (drop l.place (neighbours (graph_of l.mapped.version.now) l.source.vertex)) l.fn.numbers l.numbers l.written;
  paid : l.fn.memory.budget ≤ l.memory.budget + (longest l.mapped.program.now + EDGE_COST) * l.written;
  spent : l.memory.budget ≤ l.fn.memory.budget - EDGE_COST * l.written;
  memory : IsFor l.mapped.program.now l.memory;
}

abbrev pub decreases-slices : goal.decreases-slices
decreases-slices l = l.most - l.written
