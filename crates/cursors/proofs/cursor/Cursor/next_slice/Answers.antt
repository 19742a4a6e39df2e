use Rattle.cursors.proofs.Ties.{lend_is}
use Rattle.cursors.proofs.cursor.Cursor.next_slice.Goals as goal

pub returns-clause-event : goal.returns-clause-event
returns-clause-event c = lend_is (λ slice. slice.now) c.lend.result _ _ c.lend.ensures
