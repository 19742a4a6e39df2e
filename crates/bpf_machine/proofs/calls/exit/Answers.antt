use Rattle.std.proofs.Common.{◌≡◌, Some, length, ap, sym, ◌∙◌, refl, rules, w64}
use Rattle.std.proofs.lemmas.Int.{to_z-of_z}
use Rattle.bpf_model.specs.State.{with_value, frame_top}
use Rattle.bpf_machine.specs.Seen.{values_of, saved_of, callers_of}
use Rattle.bpf_machine.proofs.CallFacts.{goes_same}
use Rattle.bpf_machine.proofs.StackFacts.{callers_count}
use Rattle.bpf_machine.proofs.calls.exit.Goals as goal

pub returns : goal.returns
returns c lengths g bytes table =
    let value : values_of c.args.machine.now.registers 0 ≡ Some c.in-Some.value = sym c.register.ensures ∙ c.in-Some.is in
    let count = callers_count c.pop.new.self.kept c.pop.new.self.count in
    let top : c.top_of-top.result ≡ frame_top (length (callers_of c.pop.new.self.kept c.pop.new.self.count)) = c.top_of-top.ensures ∙ ap frame_top (sym count) in
    let registers = sym (ap (λ t. with_value (with_value (saved_of c.in-Some-pop.caller).registers 0 c.in-Some.value) 10 t) (sym top) ∙ sym c.returned_registers-machine.ensures) in
    rw (value, c.in-Some-pop.ensures.last) (goes_same (sym (to_z-of_z w64 c.in-Some-pop.caller.return_pc (search rules))) (sym registers) refl refl)
