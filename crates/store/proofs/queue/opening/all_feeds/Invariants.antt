use Rattle.std.proofs.Common.{◌≡◌, [], map}
use Rattle.std.specs.Arc.{arc_value}
use Rattle.crossbeam_queue.specs.Passes.{view, IsPassOf}
use Rattle.graph_model.specs.Graph.{numbers_below}
use Rattle.store.specs.Ends.{new_feed}
use Rattle.store.specs.QueueViews.{taker}
use Rattle.store.proofs.queue.opening.all_feeds.Given as goal

-- the feeds so far
abbrev pub invariant-loop-number : goal.invariant-loop-number
invariant-loop-number l = record {
  pass : IsPassOf (arc_value l.queue) l.pass;
  hand : view l.pass ≡ taker l.vertex_count [] l.number [];
  feeds : l.feeds.items ≡ map (λ feed. new_feed l.vertex_count feed l.pass.table_id) (numbers_below l.number);
}
