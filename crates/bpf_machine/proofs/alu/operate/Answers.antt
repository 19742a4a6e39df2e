use Rattle.std.proofs.Common.{◌≡◌, Some, None, ap, sym, ◌∙◌, refl}
use Rattle.bpf_isa.specs.Encoding.{number_of}
use Rattle.bpf_model.specs.Step.{left_of, operand_of, next_with_result}
use Rattle.bpf_machine.specs.Seen.{values_of, state_of}
use Rattle.bpf_machine.proofs.alu.operate.Goals as goal

pub returns-in_default-operand : goal.returns-in_default-operand
returns-in_default-operand c lengths g bytes table =
    let left : left_of c.args.operation (values_of c.args.machine.now.registers (number_of c.args.destination)) ≡ Some c.in-Some.left = sym c.first_number.ensures ∙ c.in-Some.is in
    let right : operand_of (state_of c.args.machine.now bytes table) c.args.operand ≡ None = sym (c.operand.ensures bytes table) ∙ c.in_default-operand.is in
    rw (left, right) refl

pub returns : goal.returns
returns c lengths g bytes table =
    let left : left_of c.args.operation (values_of c.args.machine.now.registers (number_of c.args.destination)) ≡ Some c.in-Some.left = sym c.first_number.ensures ∙ c.in-Some.is in
    let right : operand_of (state_of c.args.machine.now bytes table) c.args.operand ≡ Some c.in-Some-operand.right = sym (c.operand.ensures bytes table) ∙ c.in-Some-operand.is in
    rw (left, right) (ap (λ v. next_with_result (state_of c.args.machine.now bytes table) 1 c.args.destination v) (sym c.calculate-value.ensures) ∙ c.put.ensures bytes table)
