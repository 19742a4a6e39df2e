use Rattle.std.proofs.Common.{◌≡◌, Some, ap, sym, ◌∙◌}
use Rattle.std.specs.Prelude.{unwrap_or}
use Rattle.graph_model.specs.Views.{neighbour_at}
use Rattle.bpf_model.specs.Helpers.{with_answer, no_neighbour}
use Rattle.bpf_model.specs.Step.{Goes}
use Rattle.bpf_machine.specs.Seen.{values_of, state_of}
use Rattle.bpf_machine.proofs.helpers.neighbour.Goals.{in-Some-neighbour, in-None}
use Rattle.bpf_machine.proofs.helpers.neighbour.Goals as goal

pub returns : goal.returns
returns g c lengths bytes table =
    let vertex : values_of c.args.machine.now.registers 1 ≡ Some c.in-Some.vertex = sym c.register.ensures ∙ c.in-Some.is in
    let place : values_of c.args.machine.now.registers 2 ≡ Some c.in-Some-register.place = sym c.register-2.ensures ∙ c.in-Some-register.is in
    let told : unwrap_or (neighbour_at (g.G.GraphView.graph c.args.graph.now) c.in-Some.vertex c.in-Some-register.place) no_neighbour ≡ c.match-neighbour.value =
    (elim c.match-neighbour.branch [
      | in-Some-neighbour w ↦ ap (λ o. unwrap_or o no_neighbour) (sym c.neighbour.ensures ∙ w.in-Some-neighbour.is) ∙ sym (w.value-is ∙ w.from-value.ensures)
      | in-None w ↦ ap (λ o. unwrap_or o no_neighbour) (sym c.neighbour.ensures ∙ w.in-None.is) ∙ sym w.value-is
    ]) in
    rw (vertex, place) (ap (λ v. Goes (with_answer (state_of c.args.machine.now bytes table) v)) told ∙ c.go_on_with.ensures.step bytes table)
