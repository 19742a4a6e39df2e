use Rattle.std.proofs.Common.{rules, FitsSigned, w16, w32, to_z, of_z, ◌≡◌, Some, None, true, false, ap, sym, ◌∙◌, refl}
use Rattle.bpf_isa.specs.Encoding.{number_of}
use Rattle.bpf_model.specs.Arithmetic.{holds}
use Rattle.bpf_model.specs.Step.{operand_of, jump}
use Rattle.bpf_machine.specs.Seen.{values_of, state_of}
use Rattle.bpf_machine.proofs.branch.branch.Goals as goal

pub returns-in_default-operand : goal.returns-in_default-operand
returns-in_default-operand c lengths g bytes table =
    let left : values_of c.args.machine.now.registers (number_of c.args.condition.left) ≡ Some c.in-Some.first = sym c.register.ensures ∙ c.in-Some.is in
    let right : operand_of (state_of c.args.machine.now bytes table) c.args.condition.right ≡ None = sym (c.operand.ensures bytes table) ∙ c.in_default-operand.is in
    rw (left, right) refl

pub returns-then-holds : goal.returns-then-holds
returns-then-holds c lengths g bytes table =
    let left : values_of c.args.machine.now.registers (number_of c.args.condition.left) ≡ Some c.in-Some.first = sym c.register.ensures ∙ c.in-Some.is in
    let right : operand_of (state_of c.args.machine.now bytes table) c.args.condition.right ≡ Some c.in-Some-operand.second = sym (c.operand.ensures bytes table) ∙ c.in-Some-operand.is in
    let test : holds c.args.condition.width c.args.condition.comparison c.in-Some.first c.in-Some-operand.second ≡ true = sym c.holds.ensures ∙ c.if-holds.true in
    let fits : FitsSigned w16 c.args.distance = search rules in
    let wide : c.args.distance ≡ to_z w32 (of_z w32 c.from.result) = search rules in
    rw (left, right, test) (ap (jump (state_of c.args.machine.now bytes table)) wide ∙ c.jump.ensures bytes table)

pub returns-else-holds : goal.returns-else-holds
returns-else-holds c lengths g bytes table =
    let left : values_of c.args.machine.now.registers (number_of c.args.condition.left) ≡ Some c.in-Some.first = sym c.register.ensures ∙ c.in-Some.is in
    let right : operand_of (state_of c.args.machine.now bytes table) c.args.condition.right ≡ Some c.in-Some-operand.second = sym (c.operand.ensures bytes table) ∙ c.in-Some-operand.is in
    let test : holds c.args.condition.width c.args.condition.comparison c.in-Some.first c.in-Some-operand.second ≡ false = sym c.holds.ensures ∙ c.if-holds.false in
    rw (left, right, test) (c.jump-else-holds.ensures bytes table)
