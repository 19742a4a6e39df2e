use Rattle.std.proofs.Common.{sym, inl, inr, arith, ◌-◌, ◌/◌, ◌%◌}
use Rattle.bpf_model.specs.declared.limits.TheConstants.{STACK_BASE, FRAME_SPACE}
use Rattle.bpf_machine.proofs.StackFacts.{IsOutside, found_inside, found_outside}
use Rattle.bpf_machine.proofs.stack.find_spot.Goals.{then-frame-frames-via-then-frame-frames, then-frame-frames-via-else-frame-frames+then-place-lt-FRAME_START, then-frame-frames-via-else-frame-frames+else-place-lt-FRAME_START+then-size-place}
use Rattle.bpf_machine.proofs.stack.find_spot.Goals as goal
use Rattle.bpf_machine.specs.declared.stack.TheConstants.{FRAME_START}

pub returns-then-address-lt-STACK_BASE-clause-exact : goal.returns-then-address-lt-STACK_BASE-clause-exact
returns-then-address-lt-STACK_BASE-clause-exact c =
    sym (found_outside c.args.frames c.args.frames c.args.address c.args.size c.requires (omega arith) (inl c.if-address-lt-STACK_BASE.true))

pub returns-then-frame-frames-clause-exact : goal.returns-then-frame-frames-clause-exact
returns-then-frame-frames-clause-exact c =
    let outside : IsOutside c.args.frames c.args.address c.args.size = (elim c.then-frame-frames.branch [
      | then-frame-frames-via-then-frame-frames w ↦ inr (inl w.if-frame-frames.true)
      | then-frame-frames-via-else-frame-frames+then-place-lt-FRAME_START w ↦ inr (inr (inl w.if-place-lt-FRAME_START.true))
      | then-frame-frames-via-else-frame-frames+else-place-lt-FRAME_START+then-size-place w ↦ inr (inr (inr (omega (arith, w.if-size-place.true))))
    ]) in
    sym (found_outside c.args.frames c.args.frames c.args.address c.args.size c.requires (omega arith) outside)

pub returns-clause-exact : goal.returns-clause-exact
returns-clause-exact c =
    sym (found_inside c.args.frames ((c.args.address - STACK_BASE) / FRAME_SPACE) ((c.args.address - STACK_BASE) % FRAME_SPACE - FRAME_START) c.args.address c.args.size
    (omega (arith, c.if-frame-frames.false)) (omega (arith, c.if-address-lt-STACK_BASE.false, c.if-place-lt-FRAME_START.false)) (omega (arith, c.if-place-lt-FRAME_START.false, c.if-size-place.false)))
