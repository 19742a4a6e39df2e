use Rattle.std.proofs.Common.{◌≡◌, ◌-◌, length, take, drop, sym, ◌∙◌, arith, length-drop}
use Rattle.std.proofs.lemmas.List.{take_all, take-append-drop}
use Rattle.std.proofs.Math.Seq.{take-add}
use Rattle.service.proofs.KnownLemmas.{appends_more, appends_keeps}
use Rattle.service.proofs.writing.write_all.Goals as goal

pub loop-from-preserved : goal.loop-from-preserved
loop-from-preserved g c =
    let rest : take (length c.args.text.now - c.loop-from.from) (drop c.loop-from.from c.args.text.now) ≡ drop c.loop-from.from c.args.text.now = take_all _ _ (omega (arith, length-drop c.loop-from.from c.args.text.now)) in
    let took = (rw rest at c.in-Ok.ensures.bytes) in
    let bound = (rw rest at c.in-Ok.ensures.some) in
    let all = appends_more _ _ _ _ _ c.loop-from.invariant.1 took in
    (omega (arith, bound.0, length-drop c.loop-from.from c.args.text.now), rw (take-add c.loop-from.from c.in-Ok.count c.args.text.now) all, c.in-Ok.ensures.failures ∙ c.loop-from.invariant.2)

pub returns-in-Err-clause-err : goal.returns-in-Err-clause-err
returns-in-Err-clause-err g c =
    (take c.loop-from.from c.args.text.now, drop c.loop-from.from c.args.text.now, sym (take-append-drop c.loop-from.from c.args.text.now), appends_keeps _ _ _ _ c.loop-from.invariant.1 c.in-Err.ensures.bytes)
