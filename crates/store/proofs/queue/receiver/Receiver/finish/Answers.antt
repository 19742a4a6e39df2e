use Rattle.std.proofs.Common.{◌≡◌, ℕ, List, ◌∷◌, [], ◌++◌, length, map, sym, ap, ◌∙◌, subst, append-nil, arith}
use Rattle.std.proofs.lemmas.List.{length-map, nil_from_length}
use Rattle.crossbeam_queue.specs.Passes.{view}
use Rattle.past_model.specs.declared.entry.Entry.{Entry}
use Rattle.past_model.specs.declared.limits.TheConstants.{FEEDS}
use Rattle.store.specs.declared.queue.queue_view.QueueView.{QueueView}
use Rattle.store.specs.Ends.{Feeding, Taking, as_new}
use Rattle.store.specs.Feeds.{AreAllOf}
use Rattle.store.specs.QueueRule.{Left}
use Rattle.store.specs.QueueViews.{taker}
use Rattle.store.proofs.FeedLists.{count_feeds, next_feed, are_all_of}
use Rattle.store.proofs.queue.receiver.Receiver.finish.Goals as goal

pub take_in-requires-clause-queue : goal.take_in-requires-clause-queue
take_in-requires-clause-queue g c =
    let before = c.loop-feed.invariant in
    let rest : List Feeding = c.next.new.self.rest.items in
    let whole : c.loop-feed.yielded ++ c.in-Some.feed ∷ rest ≡ c.args.feeds.items = ap (λ (l : List Feeding). c.loop-feed.yielded ++ l) (sym c.in-Some.ensures.steps.0) ∙ before.whole in
    let next = next_feed c.args.self.vertex_count c.args.self.queue c.loop-feed.yielded rest c.in-Some.feed (ap (map as_new) whole ∙ c.requires) in
    next.0 ∙ sym (before.same ∙ ap (λ (t : Taking). t.queue) c.self.view_is)

pub take_in-requires-clause-next : goal.take_in-requires-clause-next
take_in-requires-clause-next g c =
    let before = c.loop-feed.invariant in
    let rest : List Feeding = c.next.new.self.rest.items in
    let whole : c.loop-feed.yielded ++ c.in-Some.feed ∷ rest ≡ c.args.feeds.items = ap (λ (l : List Feeding). c.loop-feed.yielded ++ l) (sym c.in-Some.ensures.steps.0) ∙ before.whole in
    let next = next_feed c.args.self.vertex_count c.args.self.queue c.loop-feed.yielded rest c.in-Some.feed (ap (map as_new) whole ∙ c.requires) in
    next.1 ∙ sym (ap (λ (v : QueueView). length v.ended) before.hand ∙ length-map c.loop-feed.yielded (λ (f : Feeding). f.sent))

pub returns-clause-delivered : goal.returns-clause-delivered
returns-clause-delivered g c =
    let before = c.loop-feed.invariant in
    let n : ℕ = (view c.self.inside.pass).vertex_count in
    let taken : List Entry = (view c.self.inside.pass).taken in
    let feeds : List Feeding = c.args.feeds.items in
    let items : List Entry = c.all_left.result.items in
    let none : c.loop-feed.feed-iterator.rest.items ≡ [] =
    nil_from_length c.loop-feed.feed-iterator.rest.items (omega (arith, c.loop-feed.feed-iterator.rest.ok.0, c.in-None.ensures.steps.0)) in
    let all : c.loop-feed.yielded ≡ feeds = sym (append-nil c.loop-feed.yielded) ∙ ap (λ (l : List Feeding). c.loop-feed.yielded ++ l) (sym none) ∙ before.whole in
    let hand : view c.loop-feed.pass ≡ taker n taken FEEDS (map (λ (f : Feeding). f.sent) feeds) = before.hand ∙ ap (λ (l : List Feeding). taker n taken FEEDS (map (λ (f : Feeding). f.sent) l)) all in
    let left : Left (taker n taken FEEDS (map (λ (f : Feeding). f.sent) feeds)) items = subst (λ (v : QueueView). Left v items) hand c.all_left.ensures in
    let count = count_feeds c.args.self.vertex_count c.args.self.queue feeds c.requires in
    subst (λ (l : List Entry). AreAllOf (l ++ items) feeds) (ap (λ (t : Taking). t.taken) c.self.view_is) (are_all_of n taken items feeds count left)
