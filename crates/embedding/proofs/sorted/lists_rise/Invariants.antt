use Rattle.std.proofs.Common.{ℕ, ◌<◌}
use Rattle.shards.specs.Arrays.{list_of}
use Rattle.embedding.specs.Sorted.{Rises}
use Rattle.embedding.proofs.sorted.lists_rise.Given as goal

abbrev pub invariant-loop-vertex : goal.invariant-loop-vertex
invariant-loop-vertex l = (v : ℕ) → v < l.vertex → Rises (list_of l.starts l.targets v)
