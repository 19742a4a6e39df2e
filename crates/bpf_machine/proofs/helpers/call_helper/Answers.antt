use Rattle.std.proofs.Common.{◌≡◌, Some, sym, ap, ◌∙◌, rules, FitsSigned, w32}
use Rattle.std.proofs.lemmas.Int.{to_z-of_z}
use Rattle.bpf_model.specs.State.{lent}
use Rattle.bpf_model.specs.declared.helper.Helper.TheVariants.{Degree, HasEdge, Neighbour}
use Rattle.bpf_model.specs.Helpers.{helper_of}
use Rattle.bpf_model.specs.Step.{call_helper}
use Rattle.bpf_machine.specs.Seen.{state_of}
use Rattle.bpf_machine.proofs.helpers.call_helper.Goals as goal

pub returns-in-Some-Degree-clause-step : goal.returns-in-Some-Degree-clause-step
returns-in-Some-Degree-clause-step g c =
    let fits : FitsSigned w32 c.args.number = search rules in
    let called : helper_of c.args.number ≡ Some Degree = ap helper_of (sym (to_z-of_z w32 c.args.number fits)) ∙ sym c.of.ensures ∙ c.in-Some-Degree.is ∙ ap Some c.in-Some-Degree.field-0-is in
    ap (λ h. call_helper (lent c.args.bytes.now c.args.table.now) (g.G.GraphView.graph c.args.graph.now) h (state_of c.args.machine.now c.args.bytes.now c.args.table.now)) called
    ∙ c.degree.ensures (lent c.args.bytes.now c.args.table.now) c.args.bytes.now c.args.table.now

pub returns-in-Some-HasEdge-clause-step : goal.returns-in-Some-HasEdge-clause-step
returns-in-Some-HasEdge-clause-step g c =
    let fits : FitsSigned w32 c.args.number = search rules in
    let called : helper_of c.args.number ≡ Some HasEdge = ap helper_of (sym (to_z-of_z w32 c.args.number fits)) ∙ sym c.of.ensures ∙ c.in-Some-HasEdge.is ∙ ap Some c.in-Some-HasEdge.field-0-is in
    ap (λ h. call_helper (lent c.args.bytes.now c.args.table.now) (g.G.GraphView.graph c.args.graph.now) h (state_of c.args.machine.now c.args.bytes.now c.args.table.now)) called
    ∙ c.has_edge.ensures (lent c.args.bytes.now c.args.table.now) c.args.bytes.now c.args.table.now

pub returns-in-Some-Neighbour-clause-step : goal.returns-in-Some-Neighbour-clause-step
returns-in-Some-Neighbour-clause-step g c =
    let fits : FitsSigned w32 c.args.number = search rules in
    let called : helper_of c.args.number ≡ Some Neighbour = ap helper_of (sym (to_z-of_z w32 c.args.number fits)) ∙ sym c.of.ensures ∙ c.in-Some-Neighbour.is ∙ ap Some c.in-Some-Neighbour.field-0-is in
    ap (λ h. call_helper (lent c.args.bytes.now c.args.table.now) (g.G.GraphView.graph c.args.graph.now) h (state_of c.args.machine.now c.args.bytes.now c.args.table.now)) called
    ∙ c.neighbour.ensures (lent c.args.bytes.now c.args.table.now) c.args.bytes.now c.args.table.now
