use Rattle.std.proofs.Common.{◌≡◌, Some, ap, sym, ◌∙◌}
use Rattle.graph_model.specs.Graph.{degree}
use Rattle.bpf_model.specs.Helpers.{with_answer}
use Rattle.bpf_model.specs.Step.{Goes}
use Rattle.bpf_machine.specs.Seen.{values_of, state_of}
use Rattle.bpf_machine.proofs.helpers.degree.Goals as goal

pub returns : goal.returns
returns g c lengths bytes table =
    let vertex : values_of c.args.machine.now.registers 1 ≡ Some c.in-Some.vertex = sym c.register.ensures ∙ c.in-Some.is in
    let told : degree (g.G.GraphView.graph c.args.graph.now) c.in-Some.vertex ≡ c.from.result = sym (c.from.ensures ∙ c.degree.ensures) in
    rw vertex (ap (λ v. Goes (with_answer (state_of c.args.machine.now bytes table) v)) told ∙ c.go_on_with.ensures.step bytes table)
