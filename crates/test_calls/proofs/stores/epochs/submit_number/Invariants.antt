use Rattle.std.proofs.Common.{◌≡◌, length, map}
use Rattle.store.specs.Ends.{as_new}
use Rattle.test_calls.proofs.stores.epochs.submit_number.Given as goal

abbrev pub invariant-feeds : goal.invariant-feeds
invariant-feeds g l = record {
  long : length l.feeds ≡ length l.fn.feeds;
  same : map as_new l.feeds ≡ map as_new l.fn.feeds;
}
