use Rattle.std.proofs.Common.{ℕ, ◌+◌, ◌<◌, ◌≤◌}
use Rattle.shards.specs.Arrays.{start_at}
use Rattle.embedding.proofs.sorted.are_starts.Given as goal

abbrev pub invariant-loop-vertex : goal.invariant-loop-vertex
invariant-loop-vertex l = (v : ℕ) → v < l.vertex → start_at l.starts v ≤ start_at l.starts (v + 1)
