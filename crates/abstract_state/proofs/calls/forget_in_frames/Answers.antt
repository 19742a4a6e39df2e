use Rattle.std.proofs.Common.{◌≡◌, ◌<◌, length, map, set, None, get_or, sym, ap, ◌∙◌, arith}
use Rattle.std.proofs.lemmas.List.{length-set}
use Rattle.abstract_state.specs.States.{without_pointers}
use Rattle.abstract_state.specs.Called.{frame_called, kept_by}
use Rattle.abstract_state.proofs.Places.{mapped_inside, mapped_next, frames_put, kept_same, mapped_long}
use Rattle.abstract_state.proofs.calls.forget_in_frames.Goals as goal

pub loop-i-preserved : goal.loop-i-preserved
loop-i-preserved c =
    let long = c.loop-i.invariant.0 in
    let lt : c.loop-i.i < length c.loop-i.called = (let under = c.loop-i-test.true in omega (arith, long, under)) in
    let xs = map frame_called c.loop-i.called in
    let f = without_pointers c.args.dropped in
    let here = mapped_inside frame_called c.index-called-i.result None c.loop-i.called c.loop-i.i lt in
    let taken = c.take-frame.ensures.value in
    let put : map frame_called (set (set c.loop-i.called c.loop-i.i c.take-frame.new.self) c.loop-i.i c.forget_in_frame.result) ≡ set (map frame_called c.loop-i.called) c.loop-i.i (without_pointers c.args.dropped (get_or (map frame_called c.loop-i.called) c.loop-i.i None)) =
    frames_put c.loop-i.called c.loop-i.i c.take-frame.new.self c.forget_in_frame.result ∙ ap (λ g. set (map frame_called c.loop-i.called) c.loop-i.i g) (c.forget_in_frame.ensures.frame ∙ ap (λ o. without_pointers c.args.dropped (frame_called o)) taken ∙ ap (without_pointers c.args.dropped) (sym here)) in (
      length-set (set c.loop-i.called c.loop-i.i c.take-frame.new.self) c.loop-i.i c.forget_in_frame.result ∙ length-set c.loop-i.called c.loop-i.i c.take-frame.new.self ∙ long,
      mapped_next (without_pointers c.args.dropped) None (map frame_called c.loop-i.called) _ c.loop-i.i (mapped_long frame_called c.loop-i.called c.loop-i.i lt) put ∙ c.loop-i.invariant.1,
      kept_same c.loop-i.called c.loop-i.i c.take-frame.new.self c.forget_in_frame.result c.index-called-i.result lt (c.forget_in_frame.ensures.kept ∙ ap kept_by taken) ∙ c.loop-i.invariant.2,
    )
