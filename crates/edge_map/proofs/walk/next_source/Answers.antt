use Rattle.std.proofs.Common.{◌≡◌, ◌<◌, ap, ◌∙◌, arith}
use Rattle.graph_model.specs.Graph.{degree}
use Rattle.past_model.specs.Past.{graph_of}
use Rattle.past_model.proofs.Pasts.{vertex_count-graph_of}
use Rattle.edge_map.proofs.Walks.{on_is, idle, none_behind}
use Rattle.edge_map.proofs.walk.next_source.Goals as goal

pub returns-then-degree-gt0 : goal.returns-then-degree-gt0
returns-then-degree-gt0 c =
    let g = graph_of c.args.version.now in
    let vertex = c.vertices.vertex in
    let count = vertex_count-graph_of c.args.version.now in
    let inside : vertex < g.vertex_count = omega (arith, c.vertices-test.true, c.vertex_count-vertex-end.ensures.value, count) in
    (omega (arith, c.vertices-test.true, c.vertex_count-vertex-end.ensures.range), c.vertices.invariant ∙ on_is g vertex inside, c.degree-degree.ensures.value ∙ ap (degree g) c.from.ensures, c.if-degree-gt0.true, c.degree-degree.ensures.small)

pub vertices-preserved : goal.vertices-preserved
vertices-preserved c =
    let g = graph_of c.args.version.now in
    let vertex = c.vertices.vertex in
    let count = vertex_count-graph_of c.args.version.now in
    let inside : vertex < g.vertex_count = omega (arith, c.vertices-test.true, c.vertex_count-vertex-end.ensures.value, count) in
    let value : c.degree-degree.result ≡ degree g vertex = c.degree-degree.ensures.value ∙ ap (degree g) c.from.ensures in
    let none : degree g vertex ≡ 0 = omega (arith, value, c.if-degree-gt0.false) in
    c.vertices.invariant ∙ idle g vertex inside none

pub returns : goal.returns
returns c =
    let g = graph_of c.args.version.now in
    let count = vertex_count-graph_of c.args.version.now in
    c.vertices.invariant ∙ none_behind g c.vertices.vertex (omega (arith, c.vertices-test.false, c.vertex_count-vertex-end.ensures.value, count))
