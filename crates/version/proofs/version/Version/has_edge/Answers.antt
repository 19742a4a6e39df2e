use Rattle.std.proofs.Common.{ap, ◌∙◌}
use Rattle.std.specs.Arc.{arc_value}
use Rattle.graph_model.specs.Views.{is_edge}
use Rattle.past_model.specs.Past.{Past, graph_of}
use Rattle.version.specs.Ground.{past_on}
use Rattle.shard_table.specs.Table.{IsTable}
use Rattle.version.proofs.VersionLemmas.{edge_listed}
use Rattle.version.proofs.version.Version.has_edge.Goals as goal

pub returns : goal.returns
returns c =
    let past : Past = past_on c.self.inside.vertex_count (arc_value c.self.inside.epoch) c.self.inside.log in
    let table : IsTable (graph_of past) c.self.inside.shards = c.self.invariant.table in
    let listed = c.has_edge.ensures (graph_of past) (c.shard_of.ensures (graph_of past) table) in
    edge_listed past c.args.source c.args.target c.has_edge.result listed.0 listed.1
    ∙ ap (λ (m : Past). is_edge (graph_of m) c.args.source c.args.target) c.self.view_is
