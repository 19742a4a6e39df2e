use Rattle.std.proofs.Common.{◌≡◌, ◌≤◌, false, Some, ap, ap₂, sym, ◌∙◌, arith}
use Rattle.std.proofs.lemmas.Bool.{false≢true}
use Rattle.graph_model.specs.Graph.{degree}
use Rattle.graph_model.specs.Views.{neighbour_at}
use Rattle.answers.specs.Independent.{is_in}
use Rattle.answers.proofs.Places.{each_edge, edge_at}
use Rattle.answers.proofs.independent.is_beside.Goals as goal

pub returns-then-is_marked-2-clause-yes : goal.returns-then-is_marked-2-clause-yes
returns-then-is_marked-2-clause-yes g c _ _ =
    let graph = g.G.GraphView.graph c.args.graph.now in
    let u = c.in-Some.target in
    let at : neighbour_at graph c.args.vertex c.loop-place.place ≡ Some u =
    ap₂ (neighbour_at graph) (sym c.from-in-loop-place.ensures) (sym c.from-in-loop-place-2.ensures) ∙ sym c.neighbour.ensures ∙ c.in-Some.is in
    (u, edge_at graph c.args.vertex c.loop-place.place u at, sym c.is_marked-in-Some.ensures ∙ c.if-is_marked-2.true)

pub returns-clause-no : goal.returns-clause-no
returns-clause-no g c _ beside =
    let graph = g.G.GraphView.graph c.args.graph.now in
    let enough : degree graph c.args.vertex ≤ c.loop-place.place = omega (arith, c.loop-place-test.false, c.degree-place-end.ensures ∙ ap (degree graph) c.from.ensures) in
    let found = beside (sym c.is_marked.ensures ∙ c.if-is_marked.false) in
    let none : is_in c.args.marks.now found.0 ≡ false = each_edge graph c.args.vertex (λ w. is_in c.args.marks.now w ≡ false) c.loop-place.place enough c.loop-place.invariant found.0 found.1 in
    false≢true (sym none ∙ found.2)
