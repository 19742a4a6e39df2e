use Rattle.std.proofs.Common.{rules, ◌≡◌, [], map, get_or, ap, sym, ◌∙◌}
use Rattle.std.proofs.Math.Seq.{map-set_same}
use Rattle.store.specs.Ends.{Feeding, IsFeedOf, as_new}
use Rattle.test_calls.proofs.stores.epochs.submit_number.Goals as goal

same_feed : (old new : Feeding) → IsFeedOf old.vertex_count old.queue old.feed new → as_new new ≡ as_new old
same_feed old new (count, queue, feed) = λ i. record { vertex_count = count i; feed = feed i; sent = []; refused = 0; queue = queue i }

pub feeds-preserved : goal.feeds-preserved
feeds-preserved g c =
    let old : Feeding = c.index-feeds-place.result in
    let new : Feeding = c.submit.new.feed in
    let here : IsFeedOf old.vertex_count old.queue old.feed new = search rules in
    let at : get_or c.feeds.feeds c.feeds.place old ≡ old = search rules in
    record {
      long = search rules;
      same = map-set_same as_new c.feeds.feeds c.feeds.place new old (same_feed old new here ∙ ap as_new (sym at)) ∙ c.feeds.invariant.same;
    }
