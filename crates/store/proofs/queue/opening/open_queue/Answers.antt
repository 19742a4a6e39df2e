use Rattle.std.proofs.Common.{ap, refl, inl}
use Rattle.store.proofs.Beginning.{says, all_begins}
use Rattle.store.proofs.queue.opening.open_queue.Goals as goal

pub ruled-requires-clause-rule : goal.ruled-requires-clause-rule
ruled-requires-clause-rule c = inl (inl (refl, refl))

pub try_push_as-requires-clause-rule : goal.try_push_as-requires-clause-rule
try_push_as-requires-clause-rule c = says _ _ _ _ (ap (λ v. v.opens) c.in_ok-queue.ensures.3)

pub try_pop_as-requires-clause-rule : goal.try_pop_as-requires-clause-rule
try_pop_as-requires-clause-rule c = all_begins _ _ (ap (λ v. v.waits) c.in-Ok.ensures.rule)
