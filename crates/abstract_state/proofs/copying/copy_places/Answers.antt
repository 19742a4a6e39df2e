use Rattle.std.proofs.Common.{◌≡◌, ◌<◌, length, map, sym, ap, subst, ◌∙◌, arith}
use Rattle.std.proofs.lemmas.List.{length-set}
use Rattle.abstract_state.specs.declared.state.Callees.{Callees}
use Rattle.abstract_state.specs.Called.{frame_called, kept_by}
use Rattle.abstract_state.proofs.Places.{SameBelow, same_more, both_same}
use Rattle.abstract_state.proofs.copying.copy_places.Goals as goal

pub loop-i-preserved : goal.loop-i-preserved
loop-i-preserved c =
    let long = c.loop-i.invariant.0 in
    let other_long = c.loop-i.invariant.1 in
    let lt : c.loop-i.i < length c.loop-i.copy = (let under = c.loop-i-test.true in omega (arith, long, under)) in
    let there : c.loop-i.i < length c.args.places.now = (let under = c.loop-i-test.true in omega (arith, other_long, under)) in
    let is = c.index-places-i.is in
    let frame = c.in_ok-copy.ensures.frame ∙ ap frame_called (sym is) in
    let kept = c.in_ok-copy.ensures.kept ∙ ap kept_by (sym is) in
    (length-set c.loop-i.copy c.loop-i.i c.in_ok-copy.field-0 ∙ long, other_long, same_more c.loop-i.copy c.args.places.now c.loop-i.i c.in_ok-copy.field-0 c.index-places-i.result lt there is frame kept c.loop-i.invariant.2)

pub returns : goal.returns
returns c =
    let end : c.loop-i.i ≡ 7 = (let most = c.loop-i.auto.i-end in let least = c.loop-i-test.false in omega (arith, most, least)) in
    let same = both_same c.loop-i.copy c.args.places.now 7 c.loop-i.invariant.0 c.loop-i.invariant.1 (subst (SameBelow c.loop-i.copy c.args.places.now) end c.loop-i.invariant.2) in
    record { frames = ap (λ (v : Callees). map frame_called v.places) c.in_ok-new.ensures.ok ∙ same.0; kept = ap (λ (v : Callees). map kept_by v.places) c.in_ok-new.ensures.ok ∙ same.1 }
