use Rattle.std.proofs.Common.{◌≡◌, map}
use Rattle.store.specs.Ends.{as_new}
use Rattle.test_calls.proofs.stores.epochs.submit_in_turn.Given as goal

abbrev pub invariant-numbers : goal.invariant-numbers
invariant-numbers g l = map as_new l.feeds ≡ map as_new l.fn.feeds
