use Rattle.std.proofs.Common.{◌≡◌, ℕ, length, sym, ap, ◌∙◌, arith}
use Rattle.graph_model.specs.Graph.{numbers_below}
use Rattle.past_model.specs.Past.{graph_of}
use Rattle.past_model.proofs.Pasts.{vertex_count-graph_of}
use Rattle.session.proofs.Frontiers.{empty_frontier}
use Rattle.session.proofs.runs.vertices_of.Goals as goal

pub returns-then-is_empty : goal.returns-then-is_empty
returns-then-is_empty c =
    let none : length c.args.frontier.now ≡ 0 = grind arith in
    let count : c.vertex_count.result ≡ (graph_of c.args.version.now).vertex_count = c.vertex_count.ensures.value ∙ sym (vertex_count-graph_of c.args.version.now) in
    c.in_ok-all.ensures ∙ ap (λ (n : ℕ). numbers_below n) count ∙ sym (empty_frontier c.args.frontier.now (graph_of c.args.version.now) none)
