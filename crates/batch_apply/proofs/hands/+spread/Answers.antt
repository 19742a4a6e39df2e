use Rattle.std.proofs.Common.{◌≡◌, ◌-◌, length, sym, subst}
use Rattle.batch_apply.specs.declared.hands.Share.{Share}
use Rattle.batch_apply.specs.Dealt.{IsDealt, AreDealt}
use Rattle.batch_apply.proofs.Dealing.{worker_more}
use Rattle.batch_apply.proofs.hands.+spread.Goals as goal

pub returns-clause-dealt : goal.returns-clause-dealt
returns-clause-dealt g t c =
    let parts = c.args.deal.table.now in
    let pieces = c.args.deal.pieces.now in
    let step = c.args.deal.step in
    let before = c.in_ok-lists.lists.items in
    let last = c.in_ok-there.field-0 in
    let own : IsDealt parts pieces (c.args.bound - 1) step last.items = subst (λ (s : Share). IsDealt s.table.now s.pieces.now s.first s.step last.items) c.in-Ok.ensures.ok c.in_ok-there.ensures in
    let place : length before ≡ c.args.bound - 1 = c.in_ok-lists.ensures.all in
    subst (AreDealt parts pieces step) (sym c.in_ok-push.ensures.items)
    (worker_more parts pieces step before last c.in_ok-lists.ensures.dealt (subst (λ n. IsDealt parts pieces n step last.items) (sym place) own))
