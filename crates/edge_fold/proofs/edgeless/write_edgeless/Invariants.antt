use Rattle.std.proofs.Common.{◌≡◌, ◌-◌, ◌<◌, ◌≤◌, ℕ, length, take, drop}
use Rattle.std.specs.Prelude.{slice_index}
use Rattle.graph_model.specs.Graph.{degree}
use Rattle.past_model.specs.Past.{graph_of}
use Rattle.edge_fold.proofs.edgeless.write_edgeless.Given as goal

abbrev pub invariant-vertices : goal.invariant-vertices
invariant-vertices l = record {
  on : l.at ≤ l.next;
  inside : l.next ≤ l.fn.places.end;
  edgeless : (k : ℕ) → l.at ≤ k → k < l.next → degree (graph_of l.version) (slice_index l.frontier k) ≡ 0;
  written : (k : ℕ) → l.at ≤ k → k < l.next → slice_index l.values k ≡ l.number;
  before : take l.at l.values ≡ take l.at l.fn.values;
  rest : drop l.next l.values ≡ drop l.next l.fn.values;
  long : length l.values ≡ length l.fn.values;
}

abbrev pub decreases-vertices : goal.decreases-vertices
decreases-vertices l = l.end - l.next
