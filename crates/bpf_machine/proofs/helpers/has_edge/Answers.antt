use Rattle.std.proofs.Common.{Bool, true, false, ◌≡◌, Some, ap, sym, ◌∙◌, refl, if◌then◌else◌}
use mir.Val.{bool_byte}
use Rattle.graph_model.specs.Views.{is_edge}
use Rattle.bpf_model.specs.Helpers.{with_answer}
use Rattle.bpf_model.specs.Step.{Goes}
use Rattle.bpf_machine.specs.Seen.{values_of, state_of}
use Rattle.bpf_machine.proofs.helpers.has_edge.Goals as goal

byte_is : (b : Bool) → bool_byte b ≡ (if b then 1 else 0)
byte_is true = refl
byte_is false = refl

pub returns : goal.returns
returns g c lengths bytes table =
    let source : values_of c.args.machine.now.registers 1 ≡ Some c.in-Some.source = sym c.register.ensures ∙ c.in-Some.is in
    let target : values_of c.args.machine.now.registers 2 ≡ Some c.in-Some-register.target = sym c.register-2.ensures ∙ c.in-Some-register.is in
    let edge = is_edge (g.G.GraphView.graph c.args.graph.now) c.in-Some.source c.in-Some-register.target in
    let told = sym (byte_is edge) ∙ ap bool_byte (sym c.has_edge.ensures) ∙ sym c.from.ensures in
    rw (source, target) (ap (λ v. Goes (with_answer (state_of c.args.machine.now bytes table) v)) told ∙ c.go_on_with.ensures.step bytes table)
