use Rattle.std.proofs.Common.{◌≡◌, length, ap, sym, ◌∙◌}
use Rattle.abstract_state.specs.declared.state.Callees.{Callees}
use Rattle.abstract_state.proofs.Places.{none_live, nothing_joined}
use Rattle.abstract_state.proofs.joining.join_called.Goals as goal

pub returns-in-Some-None-clause-frames : goal.returns-in-Some-None-clause-frames
returns-in-Some-None-clause-frames c =
    let long : length c.in-Some-None.callees.value.places ≡ 7 = ap (λ (v : Callees). length v.places) (sym c.deref-in-Some-None.ensures) ∙ c.has_all-in-Some-None.ensures in
    rw (c.in-Some-None.is-0, c.in-Some-None.is-1) (sym (none_live c.in-Some-None.callees.value.places 7 long))

pub returns-in-Some-None-clause-kept : goal.returns-in-Some-None-clause-kept
returns-in-Some-None-clause-kept c =
    let long : length c.in-Some-None.callees.value.places ≡ 7 = ap (λ (v : Callees). length v.places) (sym c.deref-in-Some-None.ensures) ∙ c.has_all-in-Some-None.ensures in
    rw (c.in-Some-None.is-0, c.in-Some-None.is-1) (sym (nothing_joined c.in-Some-None.callees.value.places 7 long))
