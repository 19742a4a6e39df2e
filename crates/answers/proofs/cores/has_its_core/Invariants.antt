use Rattle.std.proofs.Common.{◌≡◌, ◌==◌, ◌&&◌, not, ◌≤◌, length}
use Rattle.std.specs.Prelude.{slice_index, filter, take}
use Rattle.graph_model.specs.Graph.{neighbours}
use Rattle.answers.specs.Cores.{is_after, is_at_least}
use Rattle.answers.proofs.cores.has_its_core.Given as goal

abbrev pub invariant-loop-place : goal.invariant-loop-place
invariant-loop-place g l =
    let passed = take l.place (neighbours (g.G.GraphView.graph l.graph) l.vertex) in
    let numbers = l.cores.numbers.now in
    (l.enough ≡ length (filter (λ u. is_at_least (slice_index numbers l.vertex) (slice_index numbers u) && not (u == l.vertex)) passed))
    × (l.few ≡ length (filter (λ u. is_after numbers l.cores.places.now l.vertex u && not (u == l.vertex)) passed))
    × (l.enough ≤ l.place) × (l.few ≤ l.place)
