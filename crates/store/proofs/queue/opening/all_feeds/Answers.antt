use Rattle.std.proofs.Common.{◌≡◌, ◌+◌, ◌∙◌, ap}
use Rattle.atomic_table.specs.Seated.{TableId}
use Rattle.store.specs.declared.queue.queue_view.QueueView.{QueueView}
use Rattle.store.specs.Ends.{new_feed}
use Rattle.store.specs.QueueViews.{taker}
use Rattle.store.proofs.FeedLists.{feeds_more}
use Rattle.store.proofs.FeedSeats.{forks}
use Rattle.store.proofs.queue.opening.all_feeds.Goals as goal

pub another-seat-requires-clause-rule : goal.another-seat-requires-clause-rule
another-seat-requires-clause-rule c = forks _ _ (ap (λ v. v.takes) c.loop-number.invariant.hand)

pub loop-number-preserved : goal.loop-number-preserved
loop-number-preserved c =
    let before = c.loop-number.invariant in
    let made = c.another-seat.ensures in
    let here : c.another-seat.new.pass.table_id ≡ c.loop-number.pass.table_id = made.queue.0.0 in
    let seat : c.another-seat.result.table_id ≡ c.loop-number.pass.table_id = cc in
    let is = c.in_ok-feed.ensures ∙ ap (λ (q : TableId). new_feed c.args.vertex_count c.loop-number.number q) seat in
    record {
      pass = (here ∙ before.pass.0, made.queue.0.2 ∙ before.pass.1);
      hand = made.rule.0 ∙ ap (λ (v : QueueView). taker v.vertex_count v.taken (v.made + 1) v.ended) before.hand;
      feeds = c.in_ok-push.ensures.items ∙ feeds_more c.args.vertex_count c.loop-number.number c.loop-number.pass.table_id c.another-seat.new.pass.table_id c.loop-number.feeds.items c.in_ok-feed.field-0 here before.feeds is;
    }
