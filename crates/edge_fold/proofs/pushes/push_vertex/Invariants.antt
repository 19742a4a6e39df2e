use Rattle.std.proofs.Common.{◌≡◌, ◌+◌, ◌-◌, ◌*◌, ◌<◌, ◌≤◌, true, false, length, drop}
use Rattle.graph_model.specs.Graph.{neighbours}
use Rattle.past_model.specs.Past.{graph_of}
use Rattle.verifier.specs.Walks.{longest}
use Rattle.edge_fold.specs.Kept.{AreNumbered, IsFor}
use Rattle.edge_fold.specs.declared.budget.TheConstants.{EDGE_COST}
use Rattle.edge_fold.proofs.Pushed.{IsCarried}
use Rattle.edge_fold.proofs.pushes.push_vertex.Given as goal
use Rattle.edge_fold.specs.Inputs.{inputs_of}

abbrev pub invariant-slices : goal.invariant-slices
invariant-slices l = record {
  on : l.place ≤ l.at;
  rest : l.goes_on ≡ true → drop (l.at - l.place) (drop l.place (neighbours (graph_of l.mapped.version.now) l.source.vertex)) ≡ l.cursor;
  used : l.goes_on ≡ false → (l.place < l.at) × (l.memory.budget ≡ 0);
  memory : IsFor l.mapped.program.now l.memory;
  kept : AreNumbered l.mapped.program.now (graph_of l.mapped.version.now) (inputs_of l.mapped) l.memory.kept;
  carried : IsCarried l.reduction l.mapped.program.now (graph_of l.mapped.version.now) (inputs_of l.mapped) l.source.vertex l.place (drop l.place (neighbours (graph_of l.mapped.version.now) l.source.vertex)) (l.at - l.place) l.so_far l.fn.values l.values;
  long : length l.values ≡ length l.fn.values;
  paid : l.fn.memory.budget ≤ l.memory.budget + (longest l.mapped.program.now + EDGE_COST) * (l.at - l.place);
  spent : l.memory.budget ≤ l.fn.memory.budget - EDGE_COST * (l.at - l.place);
}

abbrev pub decreases-slices : goal.decreases-slices
decreases-slices l = length l.cursor
