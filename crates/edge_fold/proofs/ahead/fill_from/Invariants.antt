use Rattle.std.proofs.Common.{◌≡◌, ◌<◌, ◌+◌, ◌%◌, ◌^◌, ℕ, get_or}
use Rattle.edge_fold.proofs.ahead.fill_from.Given as goal

abbrev pub invariant-lanes : goal.invariant-lanes
invariant-lanes l = record {
  sources : (k : ℕ) → 0 < k → k < l.lane → get_or l.edges.sources k 0 ≡ l.edge.source;
  targets : (k : ℕ) → k + 1 < l.lane → get_or l.edges.targets (k + 1) 0 ≡ get_or l.later k 0;
  places : (k : ℕ) → 0 < k → k < l.lane → get_or l.edges.places k 0 ≡ (l.edge.place + k) % 2 ^ 32;
  degrees : (k : ℕ) → 0 < k → k < l.lane → get_or l.edges.degrees k 0 ≡ l.edge.degree;
}
