use Rattle.std.proofs.Common.{◌≡◌, ◌≤◌, ℕ, true, length, sym, ap, subst, arith}
use Rattle.past_model.specs.Past.{graph_of}
use Rattle.past_model.proofs.Pasts.{vertex_count-graph_of}
use Rattle.session_model.specs.Faults.{is_frontier}
use Rattle.session_model.specs.Responses.{frontier_of}
use Rattle.session.proofs.Frontiers.{frontier_few}
use Rattle.session.proofs.lending.frontier_for.Goals as goal

pub returns-clause-few : goal.returns-clause-few
returns-clause-few c =
    let past = c.args.version.now in
    let vertices = c.args.frontier.now in
    let is : is_frontier (graph_of past).vertex_count vertices ≡ true = subst (λ (n : ℕ). is_frontier n vertices ≡ true) (sym (vertex_count-graph_of past)) c.requires in
    let few : length (frontier_of vertices (graph_of past)) ≤ (graph_of past).vertex_count = frontier_few vertices (graph_of past) is in
    omega (arith, ap length c.in_ok-all.ensures, few, vertex_count-graph_of past, c.vertex_count.ensures.value, c.vertex_count.ensures.range)
