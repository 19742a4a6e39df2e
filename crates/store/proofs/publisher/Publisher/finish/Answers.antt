use Rattle.std.proofs.Common.{◌++◌, subst}
use Rattle.store.specs.Feeds.{AreDelivered}
use Rattle.store.specs.Storing.{Storing, taken_of}
use Rattle.store.proofs.FeedLists.{are_delivered}
use Rattle.store.proofs.publisher.Publisher.finish.Goals as goal

pub returns-clause-delivered : goal.returns-clause-delivered
returns-clause-delivered g c =
    let left = c.finish-left.result.items in
    subst (λ (s : Storing). AreDelivered s.moment.past.marks (taken_of s ++ left) c.args.feeds.items) c.self.view_is
    (are_delivered c.self.inside.committer.moment.past.marks c.self.inside.receiver.taken _ left c.args.feeds.items c.self.invariant.0 c.finish-left.ensures.delivered)
