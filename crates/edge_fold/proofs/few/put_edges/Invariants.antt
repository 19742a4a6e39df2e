use Rattle.std.proofs.Common.{◌≡◌, ◌<◌, ◌+◌, ℕ, get_or, length}
use Rattle.edge_fold.specs.Kept.{AreSame}
use Rattle.edge_fold.proofs.few.put_edges.Given as goal

abbrev pub invariant-targets : goal.invariant-targets
invariant-targets l = record {
  sources : (k : ℕ) → k < l.place → get_or l.edges.sources (l.first + k) 0 ≡ l.source;
  targets : (k : ℕ) → k < l.place → get_or l.edges.targets (l.first + k) 0 ≡ get_or l.targets k 0;
  places : (k : ℕ) → k < l.place → get_or l.edges.places (l.first + k) 0 ≡ k;
  degrees : (k : ℕ) → k < l.place → get_or l.edges.degrees (l.first + k) 0 ≡ length l.targets;
  before : (k : ℕ) → k < l.first → AreSame l.fn.edges l.edges k;
}
