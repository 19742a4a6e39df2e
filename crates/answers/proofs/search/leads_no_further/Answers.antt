use Rattle.std.proofs.Common.{◌≡◌, ◌<◌, ◌≤◌, ◌+◌, true, Some, ap, ap₂, sym, ◌∙◌, arith}
use Rattle.graph_model.specs.Graph.{degree}
use Rattle.graph_model.specs.Views.{is_edge, neighbour_at}
use Rattle.answers.specs.Search.{entry_of, not_found}
use Rattle.answers.proofs.Places.{each_edge, edge_at}
use Rattle.answers.proofs.search.leads_no_further.Goals as goal

pub returns-then-not-is_near-clause-no : goal.returns-then-not-is_near-clause-no
returns-then-not-is_near-clause-no g c _ leads =
    let graph = g.G.GraphView.graph c.args.graph.now in
    let v = c.args.vertex in
    let u = c.in-Some.target in
    let at : neighbour_at graph v c.loop-place.place ≡ Some u =
    ap₂ (neighbour_at graph) (sym c.from-in-loop-place.ensures) (sym c.from-in-loop-place-2.ensures) ∙ sym c.neighbour.ensures ∙ c.in-Some.is in
    let edge : is_edge graph v u ≡ true = edge_at graph v c.loop-place.place u at in
    let found : entry_of c.args.levels.now v < not_found = omega (arith, c.if-level.false, c.entry_at-level.ensures, c.entry_at-level.type_inv) in
    let near = leads found u edge in
    c.is_near.ensures.no c.if-not-is_near.true (near.0, omega (arith, near.1, c.entry_at-level.ensures))

pub returns-clause-yes : goal.returns-clause-yes
returns-clause-yes g c _ found u edge =
    let graph = g.G.GraphView.graph c.args.graph.now in
    let levels = c.args.levels.now in
    let enough : degree graph c.args.vertex ≤ c.loop-place.place = omega (arith, c.loop-place-test.false, c.degree-place-end.ensures ∙ ap (degree graph) c.from.ensures) in
    let near = each_edge graph c.args.vertex (λ w. (entry_of levels w < not_found) × (entry_of levels w ≤ c.entry_at-level.result + 1)) c.loop-place.place enough c.loop-place.invariant u edge in
    (near.0, omega (arith, near.1, c.entry_at-level.ensures))
