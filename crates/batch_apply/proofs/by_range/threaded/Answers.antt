use Rattle.std.proofs.lemmas.Result.{IfOk-weaker}
use Rattle.batch_apply.proofs.Cuts.{same_split}
use Rattle.batch_apply.proofs.by_range.threaded.Goals as goal

pub returns : goal.returns
returns g c =
    IfOk-weaker c.cut.result _ _ (λ pieces split.
    same_split c.args.edits.now c.in_ok-ascending.ascending.items pieces.items c.in_ok-ascending.ensures.moved c.in_ok-ascending.ensures.ranges (rw (← c.deref.ensures.value) split)) c.cut.ensures
