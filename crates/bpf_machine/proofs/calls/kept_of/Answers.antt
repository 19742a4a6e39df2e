use Rattle.std.proofs.Common.{◌≡◌, ap, ◌∙◌, rules, FitsSigned, w64, to_z, of_z}
use Rattle.std.specs.Prelude.{pos, ◌+ℤ◌}
use Rattle.std.proofs.lemmas.Int.{to_z-of_z}
use Rattle.bpf_machine.proofs.CallFacts.{kept_saved}
use Rattle.bpf_machine.proofs.calls.kept_of.Goals as goal

pub returns : goal.returns
returns c bytes table =
    let here : to_z w64 (of_z w64 c.args.machine.now.pc) ≡ c.args.machine.now.pc = to_z-of_z w64 c.args.machine.now.pc (search rules) in
    let fits : FitsSigned w64 (c.args.machine.now.pc +ℤ pos 1) = search rules in
    let back : to_z w64 (of_z w64 (to_z w64 (of_z w64 c.args.machine.now.pc) +ℤ pos 1)) ≡ c.args.machine.now.pc +ℤ pos 1 = ap (λ z. to_z w64 (of_z w64 (z +ℤ pos 1))) here ∙ to_z-of_z w64 (c.args.machine.now.pc +ℤ pos 1) fits in
    kept_saved c.args.machine.now.registers (to_z w64 (of_z w64 (to_z w64 (of_z w64 c.args.machine.now.pc) +ℤ pos 1))) (c.args.machine.now.pc +ℤ pos 1) back
