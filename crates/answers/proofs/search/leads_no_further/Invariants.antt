use Rattle.std.proofs.Common.{◌≡◌, ℕ, ◌<◌, ◌≤◌, ◌+◌, Some}
use Rattle.graph_model.specs.Views.{neighbour_at}
use Rattle.answers.specs.Search.{entry_of, not_found}
use Rattle.answers.proofs.search.leads_no_further.Given as goal

abbrev pub invariant-loop-place : goal.invariant-loop-place
invariant-loop-place g l = (place u : ℕ) → place < l.place → neighbour_at (g.G.GraphView.graph l.graph) l.vertex place ≡ Some u
    → (entry_of l.levels u < not_found) × (entry_of l.levels u ≤ l.level + 1)
