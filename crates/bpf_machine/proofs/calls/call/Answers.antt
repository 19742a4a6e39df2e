use Rattle.std.proofs.Common.{◌≡◌, ◌+◌, ◌≤◌, ◌-◌, true, ltb, ◌∷◌, suc, length, ap, sym, ◌∙◌, rules, arith, w32, to_z, of_z}
use Rattle.std.specs.Prelude.{pos, ◌+ℤ◌}
use Rattle.std.proofs.lemmas.Int.{to_z-of_z}
use Rattle.std.proofs.lemmas.Bool.{lt-ltb}
use Rattle.bpf_model.specs.State.{with_value, only, without_values, frame_top, frame_bytes, most_frames, table_base, with_table}
use Rattle.bpf_machine.specs.Cells.{cells_of}
use Rattle.bpf_machine.specs.Seen.{values_of, memory_of, callers_of}
use Rattle.bpf_machine.proofs.CallFacts.{goes_same}
use Rattle.bpf_machine.proofs.StackFacts.{callers_count}
use Rattle.bpf_machine.proofs.TableFacts.{table_beside}
use Rattle.bpf_machine.proofs.calls.call.Goals as goal

pub returns : goal.returns
returns c lengths g bytes table =
    let count = callers_count c.args.machine.now.callers.kept c.args.machine.now.callers.count in
    let pushed = c.push.ensures.count in
    let few = c.if-machine-ge-MOST_CALLERS.false in
    let live : suc (length (callers_of c.args.machine.now.callers.kept c.args.machine.now.callers.count)) ≡ c.push.new.self.count = omega (arith, count, pushed) in
    let room : ltb (suc (length (callers_of c.args.machine.now.callers.kept c.args.machine.now.callers.count))) most_frames ≡ true = lt-ltb _ _ (omega (arith, count, few)) in
    let registers : with_value (only (values_of c.args.machine.now.registers) 1 5) 10 (frame_top (suc (length (callers_of c.args.machine.now.callers.kept c.args.machine.now.callers.count)))) ≡ values_of c.passed_registers-machine.result = ap (λ t. with_value (only (values_of c.args.machine.now.registers) 1 5) 10 t) (ap frame_top live ∙ sym c.top_of.ensures) ∙ sym c.passed_registers-machine.ensures in
    let memory : without_values (memory_of bytes (values_of (cells_of c.args.machine.now.stack))) (frame_top (suc (length (callers_of c.args.machine.now.callers.kept c.args.machine.now.callers.count))) - frame_bytes) frame_bytes ≡ memory_of bytes (values_of (cells_of c.open_frame.new.self)) = ap (λ n. without_values (memory_of bytes (values_of (cells_of c.args.machine.now.stack))) (frame_top n - frame_bytes) frame_bytes) live ∙ c.open_frame.ensures bytes in
    let frame = frame_top (suc (length (callers_of c.args.machine.now.callers.kept c.args.machine.now.callers.count))) - frame_bytes in
    let low : frame + frame_bytes ≤ table_base = omega (arith, count, few) in
    let seen = table_beside table (memory_of bytes (values_of (cells_of c.args.machine.now.stack))) frame frame_bytes low ∙ ap (with_table table) memory in
    let callers = sym (c.push.ensures.pushed ∙ ap (λ s. s ∷ callers_of c.args.machine.now.callers.kept c.args.machine.now.callers.count) (c.kept_of-caller.ensures bytes table)) in
    let pc : (c.args.machine.now.pc +ℤ pos 1) +ℤ c.args.distance ≡ (c.args.machine.now.pc +ℤ pos 1) +ℤ to_z w32 (of_z w32 c.args.distance) = ap (λ d. (c.args.machine.now.pc +ℤ pos 1) +ℤ d) (sym (to_z-of_z w32 c.args.distance (search rules))) in
    rw room (goes_same pc registers seen callers ∙ c.jump.ensures bytes table)
