use Rattle.std.proofs.Common.{◌≡◌, ◌+◌, List, map, set, None, ap, ◌∙◌}
use Rattle.abstract_values.specs.declared.value.AbstractValue.{AbstractValue}
use Rattle.abstract_state.specs.declared.state.Frame.{Frame}
use Rattle.abstract_state.specs.States.{nothing_kept, without_pointer, without_pointers, left_state}
use Rattle.abstract_state.specs.Called.{frame_called, kept_by, places_of}
use Rattle.abstract_state.proofs.Places.{Boxes, left}
use Rattle.abstract_state.proofs.calls.leave_call.Goals as goal

pub returns : goal.returns
returns c =
    let registers : List AbstractValue = c.state.inside.own.value.registers in
    let frame : Frame = c.state.inside.own.value.frame in
    let called : Boxes = places_of c.state.inside.called in
    let after : Boxes = places_of c.leave_place.result in
    let cleared : c.forget_in_slots.new.slots ≡ map (without_pointer (c.args.caller + 1)) frame.slots = (rw c.deref_mut.ensures.value at c.forget_in_slots.ensures) in
    let frames : map frame_called after ≡ map (without_pointers (c.from-at.result + 1)) (set (map frame_called called) c.from-at.result None) = (rw c.take-called.ensures.value at c.leave_place.ensures.frames) in
    let keeps : map kept_by after ≡ set (map kept_by called) c.from-at.result nothing_kept = (rw c.take-called.ensures.value at c.leave_place.ensures.kept) in
    rw (c.end_registers.ensures, c.deref_mut-2.ensures.value, c.deref_mut.ensures.value) (left registers frame called after c.from-at.result c.args.caller c.kept_for-kept.result c.forget_in_slots.new.slots c.from-at.ensures c.kept_for-kept.ensures cleared frames keeps
    ∙ ap (left_state c.args.caller) c.state.view_is)
