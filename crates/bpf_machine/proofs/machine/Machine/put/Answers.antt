use Rattle.std.proofs.Common.{◌≡◌, ◌<◌, length, false, eqb, set, Some, ap, ap₂, sym, ◌∙◌, refl, rules, FitsSigned, w64, to_z, of_z}
use Rattle.std.specs.Prelude.{pos, ◌+ℤ◌}
use Rattle.std.proofs.lemmas.Bool.{ne_eqb}
use Rattle.std.proofs.lemmas.Int.{to_z-of_z}
use Rattle.bpf_isa.specs.Encoding.{number_of}
use Rattle.bpf_model.specs.State.{with_value}
use Rattle.bpf_machine.specs.Seen.{values_of}
use Rattle.bpf_machine.proofs.CallFacts.{goes_same}
use Rattle.bpf_machine.proofs.StackFacts.{stored_set}
use Rattle.bpf_machine.proofs.machine.Machine.put.Goals as goal

pub returns : goal.returns
returns c bytes table =
    let number : c.number-number.result ≡ number_of c.args.destination = c.number-number.ensures.exact in
    let other : eqb (number_of c.args.destination) 10 ≡ false = ne_eqb _ _ (λ e. c.if-number-eq10.false (number ∙ e)) in
    let inside : c.number-number.result < length c.args.self.now.registers = search rules in
    let registers : with_value (values_of c.args.self.now.registers) (number_of c.args.destination) c.args.value ≡ values_of (set c.args.self.now.registers c.number-number.result (Some c.args.value)) =
    ap (λ n. with_value (values_of c.args.self.now.registers) n c.args.value) (sym number) ∙ stored_set c.args.self.now.registers c.number-number.result c.args.value inside in
    let here : to_z w64 (of_z w64 c.args.self.now.pc) ≡ c.args.self.now.pc = to_z-of_z w64 c.args.self.now.pc (search rules) in
    let more : to_z w64 (of_z w64 c.from.result) ≡ pos c.args.units = to_z-of_z w64 c.from.result (search rules) ∙ c.from.ensures in
    let fits : FitsSigned w64 (c.args.self.now.pc +ℤ pos c.args.units) = search rules in
    let pc : to_z w64 (of_z w64 (to_z w64 (of_z w64 c.args.self.now.pc) +ℤ to_z w64 (of_z w64 c.from.result))) ≡ c.args.self.now.pc +ℤ pos c.args.units =
    ap₂ (λ a b. to_z w64 (of_z w64 (a +ℤ b))) here more ∙ to_z-of_z w64 (c.args.self.now.pc +ℤ pos c.args.units) fits in
    rw other (goes_same (sym pc) registers refl refl)
