use Rattle.std.proofs.Common.{◌≡◌, length, ap, sym, ◌∙◌}
use Rattle.std.specs.Prelude.{◌||◌}
use Rattle.bpf_model.specs.State.{in_frames, in_table, live_frames, may_write, lent}
use Rattle.bpf_machine.specs.Seen.{state_of}
use Rattle.bpf_machine.proofs.memory.is_readable.Goals.{then-in_record, else-in_record}
use Rattle.bpf_machine.proofs.memory.is_readable.Goals as goal

pub returns-then-is_live-clause-exact : goal.returns-then-is_live-clause-exact
returns-then-is_live-clause-exact c =
    let s = state_of c.args.machine.now c.args.bytes.now c.args.table.now in
    let frames = in_frames (live_frames s) c.args.address c.args.size in
    let table = in_table (length c.args.table.now) c.args.address c.args.size in
    let live : c.if-in_record.is_live ≡ may_write (lent c.args.bytes.now c.args.table.now) s c.args.address c.args.size =
    (elim c.if-in_record.branch [
      | then-in_record w ↦ w.is_live-is ∙ w.if-in_record.true ∙ ap (λ b. b || frames) (sym w.if-in_record.true ∙ c.lies_within-in_record.ensures)
      | else-in_record w ↦ w.is_live-is ∙ w.is_in_frame-is_live.ensures.exact c.args.bytes.now c.args.table.now ∙ ap (λ b. b || frames) (sym w.if-in_record.false ∙ c.lies_within-in_record.ensures)
    ]) in
    c.if-is_live.true ∙ ap (λ b. b || table) (sym c.if-is_live.true ∙ live)

pub returns-else-is_live-clause-exact : goal.returns-else-is_live-clause-exact
returns-else-is_live-clause-exact c =
    let s = state_of c.args.machine.now c.args.bytes.now c.args.table.now in
    let frames = in_frames (live_frames s) c.args.address c.args.size in
    let table = in_table (length c.args.table.now) c.args.address c.args.size in
    let live : c.if-in_record.is_live ≡ may_write (lent c.args.bytes.now c.args.table.now) s c.args.address c.args.size =
    (elim c.if-in_record.branch [
      | then-in_record w ↦ w.is_live-is ∙ w.if-in_record.true ∙ ap (λ b. b || frames) (sym w.if-in_record.true ∙ c.lies_within-in_record.ensures)
      | else-in_record w ↦ w.is_live-is ∙ w.is_in_frame-is_live.ensures.exact c.args.bytes.now c.args.table.now ∙ ap (λ b. b || frames) (sym w.if-in_record.false ∙ c.lies_within-in_record.ensures)
    ]) in
    c.is_in_table.ensures ∙ ap (λ b. b || table) (sym c.if-is_live.false ∙ live)
