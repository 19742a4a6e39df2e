use Rattle.std.proofs.Common.{◌≡◌, true, ℕ, ◌<◌, Some}
use Rattle.graph_model.specs.Views.{neighbour_at}
use Rattle.answers.specs.Independent.{is_in}
use Rattle.answers.proofs.independent.is_apart.Given as goal

abbrev pub invariant-loop-place : goal.invariant-loop-place
invariant-loop-place g l = (place u : ℕ) → place < l.place → neighbour_at (g.G.GraphView.graph l.graph) l.vertex place ≡ Some u
    → is_in l.marks u ≡ true → u ≡ l.vertex
