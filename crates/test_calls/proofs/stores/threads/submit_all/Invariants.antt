use Rattle.store.specs.Ends.{IsFeedOf}
use Rattle.test_calls.proofs.stores.threads.submit_all.Given as goal

abbrev pub invariant-numbers : goal.invariant-numbers
invariant-numbers g l = IsFeedOf l.fn.feed.vertex_count l.fn.feed.queue l.fn.feed.feed l.feed
