use Rattle.std.proofs.Common.{◌≡◌}
use Rattle.history.specs.Moment.{OneStore}
use Rattle.test_calls.proofs.stores.threads.step_all.Given as goal

abbrev pub invariant-steps : goal.invariant-steps
invariant-steps g l = record {
  queue : l.publisher.queue ≡ l.fn.publisher.queue;
  store : OneStore l.fn.publisher.moment l.publisher.moment;
}
