use Rattle.store.proofs.Ties.{submitted_is}
use Rattle.store.proofs.feed.Feed.submit.Goals as goal

pub returns-clause-event : goal.returns-clause-event
returns-clause-event g c = submitted_is c.offer.result _ _ _ c.offer.ensures.submitted c.offer.ensures.feed c.offer.ensures.below
