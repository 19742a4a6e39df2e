use Rattle.std.proofs.Common.{ℕ, ◌<◌}
use Rattle.answers.specs.Search.{LeadsNoFurther, IsReached}
use Rattle.answers.proofs.search.is_search.Given as goal

abbrev pub invariant-loop-vertex : goal.invariant-loop-vertex
invariant-loop-vertex g l =
    (v : ℕ) → v < l.vertex
    → LeadsNoFurther (g.G.GraphView.graph l.graph) l.search.levels.now v × IsReached (g.G.GraphView.graph l.graph) l.search.root l.search.levels.now l.search.parents.now v
