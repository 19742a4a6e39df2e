use Rattle.std.proofs.Common.{◌≡◌, ◌≤◌, ◌++◌, vec_capacity}
use Rattle.crossbeam_queue.specs.Passes.{view, IsPassOf}
use Rattle.past_model.specs.declared.limits.TheConstants.{FEEDS}
use Rattle.store_model.specs.declared.limits.TheConstants.{QUEUE_PLACES}
use Rattle.store.specs.QueueViews.{taker}
use Rattle.store.proofs.queue.ending.all_left.Given as goal

abbrev pub invariant-taking : goal.invariant-taking
invariant-taking g l = record {
  pass : IsPassOf l.queue l.pass;
  hand : view l.pass ≡ taker (view l.fn.pass).vertex_count ((view l.fn.pass).taken ++ l.left.items) FEEDS (view l.fn.pass).ended;
  room : QUEUE_PLACES ≤ vec_capacity l.left;
}
