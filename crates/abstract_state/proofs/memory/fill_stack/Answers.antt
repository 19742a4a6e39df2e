use Rattle.std.proofs.Common.{◌≡◌, rules, w32, to_z, of_z, suc, ◌-◌, List, Option, None, Some, get_or, sym, ap, ◌∙◌, arith}
use Rattle.std.proofs.lemmas.Int.{to_z-of_z}
use Rattle.abstract_values.specs.declared.value.AbstractValue.{AbstractValue}
use Rattle.abstract_state.specs.declared.state.Callees.{Callees}
use Rattle.abstract_state.specs.declared.state.Frame.{Frame}
use Rattle.abstract_state.specs.States.{frame_of, with_if_live}
use Rattle.abstract_state.specs.Called.{frame_called, places_of}
use Rattle.abstract_state.specs.Memory.{frame_gather_result, store_answer}
use Rattle.abstract_state.proofs.Places.{Boxes, above, with_called, told_of}
use Rattle.abstract_state.proofs.memory.fill_stack.Goals as goal

pub returns-clause-filled : goal.returns-clause-filled
returns-clause-filled c =
    let frame : c.args.frame ≡ suc (c.from.result - 1) = (let some = c.if-frame-eq0.false in let is = c.from.ensures in omega (arith, is, some)) in
    let registers : List AbstractValue = c.state.inside.own.value.registers in
    let main : Option Frame = Some c.state.inside.own.value.frame in
    let before : Boxes = c.deref_mut-2.result.now.places in
    let after : Boxes = c.fill_called-answer.new.called in
    let opened : places_of c.state.inside.called ≡ before = ap places_of (sym c.take.ensures.value ∙ c.in-Some.is) ∙ sym (ap (λ (v : Callees). v.places) c.deref_mut-2.ensures.value) in
    let was = told_of registers main (places_of c.state.inside.called) before opened c.args.state.now c.state.view_is in
    let there : frame_of c.args.state.now c.args.frame ≡ frame_called (get_or before (c.from.result - 1) None) =
    ap (λ s. frame_of s c.args.frame) (sym was) ∙ above main before c.args.frame (c.from.result - 1) frame in
    let f : Option Frame = frame_called (get_or after (c.from.result - 1) None) in
    let place : to_z w32 (of_z w32 c.args.place) ≡ c.args.place = to_z-of_z w32 c.args.place (search rules) in
    let told : frame_gather_result c.args.state.now c.args.frame (frame_called (get_or before (c.from.result - 1) None)) c.args.place c.args.room ≡ store_answer c.fill_called-answer.result (with_if_live c.args.state.now c.args.frame f) = (let raw = c.fill_called-answer.ensures.filled c.args.state.now c.args.frame in rw place at raw) in
    let left = with_called registers main before after c.args.frame (c.from.result - 1) f frame c.fill_called-answer.ensures.frames c.fill_called-answer.ensures.kept in
    rw there (told ∙ ap (store_answer c.fill_called-answer.result) (sym (left ∙ ap (λ s. with_if_live s c.args.frame f) was)))
