use Rattle.std.proofs.Common.{rules, ◌≡◌, ℕ, replicate, sym, ap, ◌∙◌}
use Rattle.past_model.specs.Past.{graph_of}
use Rattle.past_model.proofs.Pasts.{vertex_count-graph_of}
use Rattle.edge_map.specs.Jobs.{begins_with}
use Rattle.edge_map.proofs.alone.first_numbers.Goals as goal

pub returns-in_ok-numbers-in-None : goal.returns-in_ok-numbers-in-None
returns-in_ok-numbers-in-None c =
    let job = c.args.job.now in
    let n : ℕ = (graph_of job.mapped.version.now).vertex_count in
    let many : c.vertex_count-vertices.result ≡ n = c.vertex_count-vertices.ensures.value ∙ sym (vertex_count-graph_of job.mapped.version.now) in
    let items : c.in_ok-numbers-in-None.numbers.items ≡ replicate c.vertex_count-vertices.result c.nothing.result = search rules in
    items ∙ ap (λ (k : ℕ). replicate k c.nothing.result) many ∙ ap (λ (x : ℕ). replicate n x) c.nothing.ensures
    ∙ sym (ap (begins_with job.request.reduction n) c.in-None.is)
