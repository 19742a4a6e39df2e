use Rattle.std.proofs.Common.{◌≡◌, ◌<◌, rules, length, map, set, None, [], get_or, sym, ap, ap₂, ◌∙◌, arith}
use Rattle.std.proofs.lemmas.List.{length-set}
use Rattle.abstract_values.specs.Values.{join_of}
use Rattle.abstract_state.specs.States.{elementwise, join_if_live}
use Rattle.abstract_state.specs.Called.{frame_called, kept_by}
use Rattle.abstract_state.proofs.Places.{mapped_inside, frames_put, kept_at_put, mapped_long, mapped_length}
use Rattle.abstract_state.proofs.Zipped.{zipped_next}
use Rattle.abstract_state.proofs.joining.join_places.Goals as goal

pub loop-i-preserved : goal.loop-i-preserved
loop-i-preserved c =
    let long = c.loop-i.invariant.0 in
    let other_long : length c.args.others.now ≡ 7 = search rules in
    let lt : c.loop-i.i < length c.loop-i.called = (let under = c.loop-i-test.true in omega (arith, long, under)) in
    let there : c.loop-i.i < length c.args.others.now = (let under = c.loop-i-test.true in omega (arith, other_long, under)) in
    let taken = c.take-frame.ensures.value in
    let join = c.join_if_called.ensures in
    let frames : map frame_called (set (set c.loop-i.called c.loop-i.i c.take-frame.new.self) c.loop-i.i c.join_if_called.result) ≡ set (map frame_called c.loop-i.called) c.loop-i.i (join_if_live (get_or (map frame_called c.loop-i.called) c.loop-i.i None) (get_or (map frame_called c.args.others.now) c.loop-i.i None)) =
    frames_put c.loop-i.called c.loop-i.i c.take-frame.new.self c.join_if_called.result ∙ ap (λ g. set (map frame_called c.loop-i.called) c.loop-i.i g) (c.join_if_called.ensures.frame ∙ ap₂ (λ a b. join_if_live a b) (ap frame_called taken ∙ sym (mapped_inside frame_called c.index-called-i.result None c.loop-i.called c.loop-i.i lt)) (sym (mapped_inside frame_called _ None c.args.others.now c.loop-i.i there))) in
    let kept : map kept_by (set (set c.loop-i.called c.loop-i.i c.take-frame.new.self) c.loop-i.i c.join_if_called.result) ≡ set (map kept_by c.loop-i.called) c.loop-i.i (elementwise join_of (get_or (map kept_by c.loop-i.called) c.loop-i.i []) (get_or (map kept_by c.args.others.now) c.loop-i.i [])) =
    kept_at_put c.loop-i.called c.loop-i.i c.take-frame.new.self c.join_if_called.result ∙ ap (λ g. set (map kept_by c.loop-i.called) c.loop-i.i g) (c.join_if_called.ensures.kept ∙ ap₂ (λ a b. elementwise join_of a b) (ap kept_by taken ∙ sym (mapped_inside kept_by c.index-called-i.result [] c.loop-i.called c.loop-i.i lt)) (sym (mapped_inside kept_by _ [] c.args.others.now c.loop-i.i there))) in
    let frames_long : length (map frame_called c.loop-i.called) ≡ length (map frame_called c.args.others.now) = mapped_length frame_called c.loop-i.called ∙ long ∙ sym other_long ∙ sym (mapped_length frame_called c.args.others.now) in
    let kept_long : length (map kept_by c.loop-i.called) ≡ length (map kept_by c.args.others.now) = mapped_length kept_by c.loop-i.called ∙ long ∙ sym other_long ∙ sym (mapped_length kept_by c.args.others.now) in (
      length-set (set c.loop-i.called c.loop-i.i c.take-frame.new.self) c.loop-i.i c.join_if_called.result ∙ length-set c.loop-i.called c.loop-i.i c.take-frame.new.self ∙ long,
      zipped_next join_if_live None (map frame_called c.loop-i.called) (map frame_called c.args.others.now) _ c.loop-i.i (mapped_long frame_called c.loop-i.called c.loop-i.i lt) frames_long frames ∙ c.loop-i.invariant.1,
      zipped_next (elementwise join_of) [] (map kept_by c.loop-i.called) (map kept_by c.args.others.now) _ c.loop-i.i (mapped_long kept_by c.loop-i.called c.loop-i.i lt) kept_long kept ∙ c.loop-i.invariant.2,
    )
