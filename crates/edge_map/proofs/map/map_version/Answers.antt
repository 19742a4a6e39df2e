use Rattle.std.proofs.Common.{◌≡◌, refl, sym, subst, ◌∙◌, rules, arith}
use Rattle.past_model.specs.Past.{graph_of}
use Rattle.past_model.proofs.Pasts.{vertex_count-graph_of}
use Rattle.edge_map.specs.Maps.{IsFrontier, FitsRecord}
use Rattle.edge_map.proofs.Frontiers.{frontier_short}
use Rattle.edge_map.proofs.Refusals.{clash, refused_mapped}
use Rattle.edge_map.proofs.map.map_version.Goals as goal

pub returns-then-not-is_frontier : goal.returns-then-not-is_frontier
returns-then-not-is_frontier g c =
    let count : c.vertex_count.result ≡ (graph_of c.args.version.now).vertex_count = c.vertex_count.ensures.value ∙ sym (vertex_count-graph_of c.args.version.now) in
    let fits : FitsRecord c.args.request.now.program.now c.args.request.now.argument.now = search rules in
    (fits, λ h. clash (c.if-not-is_frontier.ensures.1 (subst (λ n. IsFrontier n c.args.request.now.frontier.now) (sym count) h)))

pub map_allowed-requires-clause-few : goal.map_allowed-requires-clause-few
map_allowed-requires-clause-few g c =
    λ κs m.
    let few = frontier_short c.vertex_count.result c.args.request.now.frontier.now (c.if-not-is_frontier.ensures.0 refl) in
    omega (arith, few, c.vertex_count.ensures.range)

pub returns-in_err-out : goal.returns-in_err-out
returns-in_err-out g c =
    let count : c.vertex_count.result ≡ (graph_of c.args.version.now).vertex_count = c.vertex_count.ensures.value ∙ sym (vertex_count-graph_of c.args.version.now) in
    let fits : FitsRecord c.args.request.now.program.now c.args.request.now.argument.now = search rules in
    let inside = subst (λ n. IsFrontier n c.args.request.now.frontier.now) count (c.if-not-is_frontier.ensures.0 refl) in
    refused_mapped c.args.rows c.args.request.now.program.now (graph_of c.args.version.now) c.args.request.now.reduction c.args.request.now.argument.now c.args.request.now.frontier.now c.from_residual.result c.in_err-out.field-0.0 (fits, inside) c.from_residual.ensures.1

pub returns : goal.returns
returns g c =
    let count : c.vertex_count.result ≡ (graph_of c.args.version.now).vertex_count = c.vertex_count.ensures.value ∙ sym (vertex_count-graph_of c.args.version.now) in
    let fits : FitsRecord c.args.request.now.program.now c.args.request.now.argument.now = search rules in
    let inside = subst (λ n. IsFrontier n c.args.request.now.frontier.now) count (c.if-not-is_frontier.ensures.0 refl) in
    ((fits, inside), c.in_ok-out.ensures)
