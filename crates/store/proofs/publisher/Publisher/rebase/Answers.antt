use Rattle.store.proofs.Stepping.{rebase_shown}
use Rattle.store.proofs.publisher.Publisher.rebase.Goals as goal

pub invariant_of-self : goal.invariant_of-self
invariant_of-self g c =
    let p = c.self.inside in
    rebase_shown p.committer c.rebase.new.self p.held p.pending c.take.new.self p.receiver c.in-Ok.receipt c.take.ensures.after c.self.invariant
    (rw c.take.ensures.value at c.in-Ok.ensures)
