use Rattle.std.proofs.Common.{◌≡◌, ◌++◌, map}
use Rattle.std.specs.Arc.{arc_value}
use Rattle.crossbeam_queue.specs.Passes.{view, IsPassOf}
use Rattle.past_model.specs.declared.limits.TheConstants.{FEEDS}
use Rattle.store.specs.Ends.{Feeding}
use Rattle.store.specs.QueueViews.{taker}
use Rattle.store.proofs.queue.receiver.Receiver.finish.Given as goal

-- what the feeds put that have ended
abbrev pub invariant-loop-feed : goal.invariant-loop-feed
invariant-loop-feed g l = record {
  whole : l.yielded ++ l.feed-iterator.rest.items ≡ l.fn.feeds.items;
  pass : IsPassOf (arc_value l.queue) l.pass;
  same : l.pass.table_id ≡ l.initial.pass.table_id;
  hand : view l.pass ≡ taker (view l.initial.pass).vertex_count (view l.initial.pass).taken FEEDS (map (λ (f : Feeding). f.sent) l.yielded);
}
