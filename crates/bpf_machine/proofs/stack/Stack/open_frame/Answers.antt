use Rattle.std.proofs.Common.{◌≡◌, ◌*◌, sym, ap, ◌∙◌}
use Rattle.bpf_model.specs.State.{without_values, frame_bytes}
use Rattle.bpf_model.specs.declared.limits.TheConstants.{FRAME_BYTES}
use Rattle.bpf_machine.specs.Cells.{cells_of}
use Rattle.bpf_machine.specs.Seen.{values_of, memory_of}
use Rattle.bpf_machine.proofs.StackFacts.{cleared_seen}
use Rattle.bpf_machine.proofs.stack.Stack.open_frame.Goals as goal

pub returns-in-One : goal.returns-in-One
returns-in-One c bytes =
    let before : values_of (cells_of c.args.self.now) ≡ values_of c.in-One.cells = sym c.make_room.ensures.same ∙ ap (λ s. values_of (cells_of s)) c.in-One.is in
    cleared_seen bytes (values_of (cells_of c.args.self.now)) c.args.frame ∙ ap (memory_of bytes) (ap (λ m. without_values m (FRAME_BYTES * c.args.frame) frame_bytes) before ∙ sym c.clear_row.ensures)

pub returns-in-All : goal.returns-in-All
returns-in-All c bytes =
    let before : values_of (cells_of c.args.self.now) ≡ values_of c.in-All.cells = sym c.make_room.ensures.same ∙ ap (λ s. values_of (cells_of s)) c.in-All.is in
    cleared_seen bytes (values_of (cells_of c.args.self.now)) c.args.frame ∙ ap (memory_of bytes) (ap (λ m. without_values m (FRAME_BYTES * c.args.frame) frame_bytes) before ∙ sym c.clear_row-in-All.ensures)
