use Rattle.std.proofs.Common.{◌≡◌, ◌∷◌, [], List, get_or, Option, Some, ap, ◌∙◌}
use Rattle.std.specs.Global.{Box}
use Rattle.abstract_values.specs.declared.value.AbstractValue.{AbstractValue}
use Rattle.abstract_values.specs.declared.value.AbstractValue.TheVariants.{Unset}
use Rattle.abstract_state.specs.declared.state.Called.{Called}
use Rattle.abstract_state.specs.declared.state.Callees.{Callees}
use Rattle.abstract_state.specs.declared.state.Frame.{Frame}
use Rattle.abstract_state.specs.States.{callee_state}
use Rattle.abstract_state.specs.Called.{kept_by, places_of}
use Rattle.abstract_state.proofs.Places.{entered}
use Rattle.abstract_state.proofs.calls.enter_call.Goals as goal

abbrev some_frame : Frame → Option Frame
some_frame f = Some f

pub returns-in-Ok-clause-entered : goal.returns-in-Ok-clause-entered
returns-in-Ok-clause-entered c =
    let registers : List AbstractValue = c.state.inside.own.value.registers in
    let main : Option Frame = Some c.state.inside.own.value.frame in
    let x : Option (Box Called) = Some c.in-Ok.place in
    let called : c.deref_mut-in-Ok.result.now.places ≡ places_of c.state.inside.called =
    ap (λ (v : Callees). v.places) c.deref_mut-in-Ok.ensures.value ∙ ap (λ (v : Callees). v.places) c.deref_mut.ensures.value ∙ c.in_ok-callees.ensures.opened ∙ ap places_of c.take.ensures.value in
    let kept : kept_by x ≡ get_or registers 6 Unset ∷ get_or registers 7 Unset ∷ get_or registers 8 Unset ∷ get_or registers 9 Unset ∷ [] = (rw c.deref.ensures at c.in-Ok.ensures.kept) in
    rw (c.begin_registers.ensures, c.deref_mut-in-Ok-2.ensures.value, called) (entered registers main (places_of c.state.inside.called) c.from.result c.args.caller x c.from.ensures (ap some_frame c.in-Ok.ensures.frame) kept ∙ ap (callee_state c.args.caller) c.state.view_is)
