use Rattle.std.proofs.Common.{◌<◌, List, sym, ap, arith}
use Rattle.past_model.specs.Past.{graph_of}
use Rattle.past_model.proofs.Pasts.{vertex_count-graph_of}
use Rattle.edge_fold.specs.declared.edge.Edge.{Edge}
use Rattle.edge_map.specs.Ahead.{Ahead}
use Rattle.edge_map.proofs.Walks.{all_at}
use Rattle.edge_map.proofs.walk.Walk.over.Goals as goal

pub returns : goal.returns
returns c =
    let past = c.args.version.now in
    let range = c.vertex_count-some.ensures.range in
    let some : 0 < (graph_of past).vertex_count = omega (arith, range, c.vertex_count-some.ensures.value, vertex_count-graph_of past) in
    let ahead : List Edge → Ahead = λ edges. record { past = past; edges = edges } in
    ap ahead (sym (all_at (graph_of past) some))
