use Rattle.std.proofs.Common.{◌≡◌, None, get_or, sym, ◌∙◌, arith, below_more}
use Rattle.abstract_state.proofs.Places.{none_there, read_none, not_some}
use Rattle.abstract_state.proofs.calls.are_none.Goals as goal

pub loop-i-preserved : goal.loop-i-preserved
loop-i-preserved c =
    let here : get_or c.args.places.now c.loop-i.i c.index-places-i.result ≡ None = not_some _ (sym c.is_some.ensures ∙ c.if-is_some.false) in
    (c.loop-i.invariant.0, below_more (λ j. get_or c.args.places.now j None ≡ None) c.loop-i.i c.loop-i.invariant.1 (read_none c.args.places.now c.loop-i.i c.index-places-i.result c.index-places-i.is here))

pub returns : goal.returns
returns c some =
    let end : c.loop-i.i ≡ 7 = (let most = c.loop-i.auto.i-end in let least = c.loop-i-test.false in omega (arith, most, least)) in
    none_there c.args.places.now 7 c.loop-i.invariant.0 (λ j lt. c.loop-i.invariant.1 j (omega (arith, lt, end)))
