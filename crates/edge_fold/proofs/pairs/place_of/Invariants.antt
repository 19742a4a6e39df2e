use Rattle.std.proofs.Common.{◌-◌, ◌<◌, ◌≤◌, ℕ, length}
use Rattle.std.specs.Prelude.{slice_index}
use Rattle.graph_model.specs.Graph.{neighbours}
use Rattle.past_model.specs.Past.{graph_of}
use Rattle.edge_fold.proofs.pairs.place_of.Given as goal

abbrev pub invariant-halves : goal.invariant-halves
invariant-halves l =
    let all = neighbours (graph_of l.version) l.source in
    record {
      order : l.low ≤ l.high;
      inside : l.high ≤ length all;
      below : (i : ℕ) → i < l.low → slice_index all i < l.target;
      above : (i : ℕ) → l.high ≤ i → i < length all → l.target ≤ slice_index all i;
    }

abbrev pub decreases-halves : goal.decreases-halves
decreases-halves l = l.high - l.low
