use Rattle.std.proofs.Common.{◌≡◌}
use Rattle.graph_model.specs.Graph.{numbers_below}
use Rattle.session.proofs.frontier.all_vertices.Given as goal

-- the vertices so far
abbrev pub invariant-loop-v : goal.invariant-loop-v
invariant-loop-v l = l.all.items ≡ numbers_below l.v
