use Rattle.std.proofs.Common.{◌≡◌, ◌≤◌, true, Some, ap, ap₂, sym, ◌∙◌, arith}
use Rattle.graph_model.specs.Graph.{degree}
use Rattle.graph_model.specs.Views.{is_edge, neighbour_at}
use Rattle.answers.specs.Independent.{is_in}
use Rattle.answers.proofs.Places.{each_edge, edge_at}
use Rattle.answers.proofs.independent.is_apart.Goals as goal

pub returns-then-is_marked-clause-no : goal.returns-then-is_marked-clause-no
returns-then-is_marked-clause-no g c _ apart =
    let graph = g.G.GraphView.graph c.args.graph.now in
    let v = c.args.vertex in
    let u = c.in-Some.target in
    let at : neighbour_at graph v c.loop-place.place ≡ Some u =
    ap₂ (neighbour_at graph) (sym c.from-in-loop-place.ensures) (sym c.from-in-loop-place-2.ensures) ∙ sym c.neighbour.ensures ∙ c.in-Some.is in
    let edge : is_edge graph v u ≡ true = edge_at graph v c.loop-place.place u at in
    let same : u ≡ v = apart (sym c.is_marked.ensures ∙ c.if-not-is_marked.false) u edge (sym c.is_marked-then-target-vertex.ensures ∙ c.if-is_marked.true) in
    omega (arith, same, c.if-target-vertex.true)

pub returns-clause-yes : goal.returns-clause-yes
returns-clause-yes g c _ _ u edge marked =
    let graph = g.G.GraphView.graph c.args.graph.now in
    let enough : degree graph c.args.vertex ≤ c.loop-place.place = omega (arith, c.loop-place-test.false, c.degree-place-end.ensures ∙ ap (degree graph) c.from.ensures) in
    each_edge graph c.args.vertex (λ w. is_in c.args.marks.now w ≡ true → w ≡ c.args.vertex) c.loop-place.place enough c.loop-place.invariant u edge marked
