use Rattle.std.proofs.Common.{◌≡◌, ℕ, ◌<◌, Some}
use Rattle.std.specs.Prelude.{slice_index}
use Rattle.graph_model.specs.Views.{neighbour_at}
use Rattle.answers.proofs.components.keeps_its_label.Given as goal

abbrev pub invariant-loop-place : goal.invariant-loop-place
invariant-loop-place g l = (place u : ℕ) → place < l.place → neighbour_at (g.G.GraphView.graph l.graph) l.vertex place ≡ Some u
    → slice_index l.labels u ≡ l.label
