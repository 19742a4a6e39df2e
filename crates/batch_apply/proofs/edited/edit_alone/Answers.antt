use Rattle.std.proofs.Common.{[], length, sym, subst}
use Rattle.batch_apply.specs.Dealt.{AreDealt}
use Rattle.batch_apply.proofs.Dealing.{worker_more, none_dealt}
use Rattle.batch_apply.proofs.edited.edit_alone.Goals as goal

pub put_in-requires-clause-dealt : goal.put_in-requires-clause-dealt
put_in-requires-clause-dealt g c =
    let parts = c.args.table.now in
    let pieces = c.args.pieces.now in
    let own = c.in_ok-own.own in
    subst (λ lists. AreDealt parts pieces (length lists) lists) (sym c.from_ref.ensures.value)
    (worker_more parts pieces 1 [] own (none_dealt parts pieces 1) c.in_ok-own.ensures)
