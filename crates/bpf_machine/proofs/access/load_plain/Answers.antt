use Rattle.std.proofs.Common.{rules, FitsSigned, w16, ◌≡◌, Some, ap, sym, ◌∙◌}
use Rattle.std.proofs.lemmas.Int.{to_z-of_z}
use Rattle.bpf_isa.specs.Encoding.{number_of}
use Rattle.bpf_model.specs.State.{address_at, lent}
use Rattle.bpf_model.specs.Step.{load, next_with_result}
use Rattle.bpf_machine.specs.Seen.{values_of, state_of, going_on}
use Rattle.bpf_machine.proofs.access.load_plain.Goals as goal

pub returns-in-Err : goal.returns-in-Err
returns-in-Err c g =
    let start : values_of c.args.machine.now.registers (number_of c.args.access.base) ≡ Some c.in-Some.start = sym c.register.ensures ∙ c.in-Some.is in
    let fits : FitsSigned w16 c.args.access.offset = search rules in
    let address : address_at c.in-Some.start c.args.access.offset ≡ c.address_from-address.result = ap (address_at c.in-Some.start) (sym (to_z-of_z w16 c.args.access.offset fits)) ∙ sym c.address_from-address.ensures in
    let go = next_with_result (state_of c.args.machine.now c.args.bytes.now c.args.table.now) 1 c.args.destination in
    rw start (ap (λ a. load (lent c.args.bytes.now c.args.table.now) (state_of c.args.machine.now c.args.bytes.now c.args.table.now) a c.args.access.size go) address ∙ c.load_number.ensures go ∙ ap (λ r. going_on r c.args.machine.now.pc go) c.in-Err.is)

pub returns-in-Ok : goal.returns-in-Ok
returns-in-Ok c g =
    let start : values_of c.args.machine.now.registers (number_of c.args.access.base) ≡ Some c.in-Some.start = sym c.register.ensures ∙ c.in-Some.is in
    let fits : FitsSigned w16 c.args.access.offset = search rules in
    let address : address_at c.in-Some.start c.args.access.offset ≡ c.address_from-address.result = ap (address_at c.in-Some.start) (sym (to_z-of_z w16 c.args.access.offset fits)) ∙ sym c.address_from-address.ensures in
    let go = next_with_result (state_of c.args.machine.now c.args.bytes.now c.args.table.now) 1 c.args.destination in
    rw start (ap (λ a. load (lent c.args.bytes.now c.args.table.now) (state_of c.args.machine.now c.args.bytes.now c.args.table.now) a c.args.access.size go) address ∙ c.load_number.ensures go ∙ ap (λ r. going_on r c.args.machine.now.pc go) c.in-Ok.is ∙ c.put.ensures c.args.bytes.now c.args.table.now)
