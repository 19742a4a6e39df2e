use Rattle.std.proofs.Common.{◌≡◌, ◌≤◌, true, Some, ap, ap₂, sym, ◌∙◌, arith}
use Rattle.std.specs.Prelude.{slice_index}
use Rattle.graph_model.specs.Graph.{degree}
use Rattle.graph_model.specs.Views.{is_edge, neighbour_at}
use Rattle.answers.proofs.Places.{each_edge, edge_at}
use Rattle.answers.proofs.components.keeps_its_label.Goals as goal

pub returns-then-entry_at-label-clause-no : goal.returns-then-entry_at-label-clause-no
returns-then-entry_at-label-clause-no g c _ keeps =
    let graph = g.G.GraphView.graph c.args.graph.now in
    let v = c.args.vertex in
    let u = c.in-Some.target in
    let at : neighbour_at graph v c.loop-place.place ≡ Some u =
    ap₂ (neighbour_at graph) (sym c.from-in-loop-place.ensures) (sym c.from-in-loop-place-2.ensures) ∙ sym c.neighbour.ensures ∙ c.in-Some.is in
    let edge : is_edge graph v u ≡ true = edge_at graph v c.loop-place.place u at in
    omega (arith, keeps u edge, c.entry_at.ensures, c.entry_at-label.ensures, c.if-entry_at-label.true)

pub returns-clause-yes : goal.returns-clause-yes
returns-clause-yes g c _ u edge =
    let graph = g.G.GraphView.graph c.args.graph.now in
    let enough : degree graph c.args.vertex ≤ c.loop-place.place = omega (arith, c.loop-place-test.false, c.degree-place-end.ensures ∙ ap (degree graph) c.from.ensures) in
    each_edge graph c.args.vertex (λ w. slice_index c.args.labels.now w ≡ c.entry_at-label.result) c.loop-place.place enough c.loop-place.invariant u edge ∙ c.entry_at-label.ensures
