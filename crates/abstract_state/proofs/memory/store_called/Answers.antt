use Rattle.std.proofs.Common.{◌≡◌, rules, ◌<◌, length, map, Option, None, Some, get_or, set, sym, ap, ◌∙◌, refl, arith}
use Rattle.std.specs.Global.{Box}
use Rattle.std.specs.Box.{with_value}
use Rattle.abstract_state.specs.declared.state.Called.{Called}
use Rattle.abstract_state.specs.Called.{frame_called, kept_by}
use Rattle.abstract_state.proofs.Places.{read_some, frames_put, kept_put, frames_back, there_now, refused_map}
use Rattle.abstract_state.proofs.memory.store_called.Goals as goal

pub returns-clause-frames : goal.returns-clause-frames
returns-clause-frames c =
    let x : Option (Box Called) = Some (with_value c.in-Some.taken (record { frame = c.store_live-answer.new.frame; kept = c.deref_mut.result.now.kept })) in
    let long : length c.args.called.now ≡ 7 = search rules in
    let lt : c.args.at < length c.args.called.now = (let under = c.if-at-ge-MOST_CALLERS.false in omega (arith, long, under)) in
    frames_put c.args.called.now c.args.at c.take.new.self x
    ∙ ap (λ f. set (map frame_called c.args.called.now) c.args.at (frame_called f)) (sym (there_now c.args.called.now c.args.at c.take.new.self x lt))

pub returns-clause-kept : goal.returns-clause-kept
returns-clause-kept c =
    let x : Option (Box Called) = Some (with_value c.in-Some.taken (record { frame = c.store_live-answer.new.frame; kept = c.deref_mut.result.now.kept })) in
    let long : length c.args.called.now ≡ 7 = search rules in
    let lt : c.args.at < length c.args.called.now = (let under = c.if-at-ge-MOST_CALLERS.false in omega (arith, long, under)) in
    let is : get_or c.args.called.now c.args.at None ≡ Some c.in-Some.taken = read_some c.args.called.now c.args.at c.index-called-at.result c.in-Some.taken lt (sym c.take.ensures.value ∙ c.in-Some.is) in
    let same : kept_by x ≡ c.in-Some.taken.value.kept = ap (λ (v : Called). v.kept) c.deref_mut.ensures.value in
    kept_put c.args.called.now c.args.at c.take.new.self x c.in-Some.taken is same

pub returns-clause-unchanged : goal.returns-clause-unchanged
returns-clause-unchanged c =
    let x : Option (Box Called) = Some (with_value c.in-Some.taken (record { frame = c.store_live-answer.new.frame; kept = c.deref_mut.result.now.kept })) in
    let long : length c.args.called.now ≡ 7 = search rules in
    let lt : c.args.at < length c.args.called.now = (let under = c.if-at-ge-MOST_CALLERS.false in omega (arith, long, under)) in
    let is : get_or c.args.called.now c.args.at None ≡ Some c.in-Some.taken = read_some c.args.called.now c.args.at c.index-called-at.result c.in-Some.taken lt (sym c.take.ensures.value ∙ c.in-Some.is) in
    let frame = c.deref_mut.ensures.value in
    refused_map c.store_live-answer.result (c.store_live-answer.new.frame ≡ c.deref_mut.result.now.frame) (map frame_called (set (set c.args.called.now c.args.at c.take.new.self) c.args.at x) ≡ map frame_called c.args.called.now)
    (λ h. (let same : frame_called x ≡ frame_called (Some c.in-Some.taken) = (rw (h, frame) refl) in frames_back c.args.called.now c.args.at c.take.new.self x c.in-Some.taken is same))
    c.store_live-answer.ensures.unchanged
