use Rattle.std.proofs.Common.{◌≡◌, ◌+◌, Option, map, set, replicate, None, ap, ◌∙◌, sym}
use Rattle.std.specs.Global.{Box}
use Rattle.abstract_state.specs.declared.state.Called.{Called}
use Rattle.abstract_state.specs.declared.state.Callees.{Callees}
use Rattle.abstract_state.specs.States.{most_callers, without_pointers}
use Rattle.abstract_state.specs.Called.{frame_called, kept_by}
use Rattle.abstract_state.proofs.Places.{Boxes, map_put}
use Rattle.abstract_state.proofs.calls.leave_place.Goals as goal

pub returns-then-are_none : goal.returns-then-are_none
returns-then-are_none c =
    let places : Boxes = c.in-Some.callees.value.places in
    let cleared : c.deref_mut-2.result.now.places ≡ set places c.args.at None =
    ap (λ (v : Callees). v.places) c.deref_mut-2.ensures.value ∙ ap (λ (o : Option (Box Called)). set c.deref_mut.result.now.places c.args.at o) c.take-dropped.ensures.after ∙ ap (λ (v : Callees). set v.places c.args.at None) c.deref_mut.ensures.value in
    let none : set places c.args.at None ≡ replicate most_callers None =
    sym cleared ∙ sym (ap (λ (v : Callees). v.places) c.deref.ensures) ∙ c.are_none.ensures c.if-are_none.true in
    let dropped : map (without_pointers (c.args.at + 1)) (set (map frame_called places) c.args.at None) ≡ replicate most_callers None =
    ap (map (without_pointers (c.args.at + 1))) (sym (map_put frame_called places c.args.at None) ∙ ap (map frame_called) none) in
    rw c.in-Some.is (record {
      frames = ap (map frame_called) (cleared ∙ none) ∙ sym dropped;
      kept = ap (map kept_by) cleared ∙ map_put kept_by places c.args.at None;
    })

pub returns : goal.returns
returns c =
    let places : Boxes = c.in-Some.callees.value.places in
    let cleared : c.deref_mut-2.result.now.places ≡ set places c.args.at None =
    ap (λ (v : Callees). v.places) c.deref_mut-2.ensures.value ∙ ap (λ (o : Option (Box Called)). set c.deref_mut.result.now.places c.args.at o) c.take-dropped.ensures.after ∙ ap (λ (v : Callees). set v.places c.args.at None) c.deref_mut.ensures.value in
    let called : c.deref_mut-3.result.now.places ≡ set places c.args.at None = ap (λ (v : Callees). v.places) c.deref_mut-3.ensures.value ∙ cleared in
    rw c.in-Some.is (record {
      frames = c.forget_in_frames.ensures.frames ∙ ap (λ (l : Boxes). map (without_pointers (c.args.at + 1)) (map frame_called l)) called ∙ ap (map (without_pointers (c.args.at + 1))) (map_put frame_called places c.args.at None);
      kept = c.forget_in_frames.ensures.kept ∙ ap (map kept_by) called ∙ map_put kept_by places c.args.at None;
    })
