use Rattle.std.proofs.Common.{ℕ, ◌<◌}
use Rattle.answers.specs.Cores.{HasItsCore}
use Rattle.answers.proofs.cores.are_cores.Given as goal

abbrev pub invariant-loop-vertex : goal.invariant-loop-vertex
invariant-loop-vertex g l =
    (v : ℕ) → v < l.vertex → HasItsCore (g.G.GraphView.graph l.graph) l.cores.numbers.now l.cores.places.now v
