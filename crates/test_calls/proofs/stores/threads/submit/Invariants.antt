use Rattle.store.specs.Ends.{IsFeedOf}
use Rattle.test_calls.proofs.stores.threads.submit.Given as goal

abbrev pub invariant-tries : goal.invariant-tries
invariant-tries g l = IsFeedOf l.fn.feed.vertex_count l.fn.feed.queue l.fn.feed.feed l.feed
