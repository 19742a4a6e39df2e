use Rattle.std.proofs.Common.{ℕ, ◌<◌}
use Rattle.answers.specs.Independent.{IsApart, IsBeside}
use Rattle.answers.proofs.independent.is_independent_set.Given as goal

abbrev pub invariant-loop-vertex : goal.invariant-loop-vertex
invariant-loop-vertex g l =
    (v : ℕ) → v < l.vertex → IsApart (g.G.GraphView.graph l.graph) l.marks v × IsBeside (g.G.GraphView.graph l.graph) l.marks v
