use Rattle.std.proofs.Common.{ℕ, ◌<◌, ◌≤◌}
use Rattle.std.specs.Prelude.{slice_index}
use Rattle.answers.specs.Components.{KeepsItsLabel, ReachesItsLabel}
use Rattle.answers.proofs.components.are_components.Given as goal

abbrev pub invariant-loop-vertex : goal.invariant-loop-vertex
invariant-loop-vertex g l =
    (v : ℕ) → v < l.vertex
    → KeepsItsLabel (g.G.GraphView.graph l.graph) l.components.labels.now v × (slice_index l.components.labels.now v ≤ v)
    × ReachesItsLabel (g.G.GraphView.graph l.graph) l.components.labels.now l.components.parents.now l.components.steps.now v
