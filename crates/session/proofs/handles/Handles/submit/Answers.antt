use Rattle.std.proofs.Common.{◌≡◌, ℕ, ◌<◌, List, length, get_or, subst, arith}
use Rattle.std.proofs.lemmas.List.{get_or_read}
use Rattle.store.specs.Ends.{Feeding, IsFeedOf}
use Rattle.store.proofs.FeedLists.{feeds_after}
use Rattle.session.proofs.handles.Handles.submit.Goals as goal

-- the feed that was handed a batch is the feed that it was
pub invariant_of-self-then-feed-len-2 : goal.invariant_of-self-then-feed-len-2
invariant_of-self-then-feed-len-2 g c =
    let was = c.self.invariant in
    let feeds : List Feeding = c.self.inside.ends.feeds.items in
    let k : ℕ = c.from-feed.result in
    let new : Feeding = c.submit.new.self in
    let there : k < length feeds = omega (arith, c.self.inside.ends.feeds.ok.0, c.if-feed-len.true, c.len.ensures) in
    let at : c.index_mut.result.now ≡ get_or feeds k new = get_or_read feeds k c.index_mut.result.now there c.index_mut.ensures.value new in
    record {
      feeds_are = feeds_after c.self.inside.ends.publisher feeds k new was.feeds_are (subst (λ (old : Feeding). IsFeedOf old.vertex_count old.queue old.feed new) at c.submit.ensures.same_feed);
      seen = was.seen;
      count = was.count;
      few = was.few;
      number_is = was.number_is;
      epoch_is = was.epoch_is;
    }

pub invariant_of-self : goal.invariant_of-self
invariant_of-self g c =
    let was = c.self.invariant in
    let feeds : List Feeding = c.self.inside.ends.feeds.items in
    let k : ℕ = c.from-feed.result in
    let new : Feeding = c.submit.new.self in
    let there : k < length feeds = omega (arith, c.self.inside.ends.feeds.ok.0, c.if-feed-len.true, c.len.ensures) in
    let at : c.index_mut.result.now ≡ get_or feeds k new = get_or_read feeds k c.index_mut.result.now there c.index_mut.ensures.value new in
    record {
      feeds_are = feeds_after c.self.inside.ends.publisher feeds k new was.feeds_are (subst (λ (old : Feeding). IsFeedOf old.vertex_count old.queue old.feed new) at c.submit.ensures.same_feed);
      seen = was.seen;
      count = was.count;
      few = was.few;
      number_is = was.number_is;
      epoch_is = was.epoch_is;
    }
