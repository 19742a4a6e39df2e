use Rattle.std.proofs.Common.{◌≡◌, drop}
use Rattle.std.specs.List.{flat_map}
use Rattle.graph_model.specs.Graph.{numbers_below}
use Rattle.past_model.specs.Past.{graph_of}
use Rattle.edge_map.specs.Listing.{edges_of}
use Rattle.edge_map.specs.Ahead.{edges_behind}
use Rattle.edge_map.proofs.walk.next_source.Given as goal

abbrev pub invariant-vertices : goal.invariant-vertices
invariant-vertices l = edges_behind (graph_of l.version) l.source ≡ flat_map (edges_of (graph_of l.version)) (drop l.vertex (numbers_below (graph_of l.version).vertex_count))
