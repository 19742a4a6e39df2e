-- Feeds in a list.
use Rattle.std.proofs.Common.{◌≡◌, ◌==◌, ℕ, suc, ◌+◌, ◌<◌, List, [], ◌∷◌, ◌++◌, length, map, get_or, set, sym, ap, ◌∙◌, arith, append_assoc, length-append}
use Rattle.std.proofs.Math.Path.{fun_ext}
use Rattle.std.proofs.lemmas.List.Elements.{filter-append}
use Rattle.std.proofs.Math.Seq.{map-set_same, get_or-append_seam}
use Rattle.std.proofs.lemmas.List.{length-map, map-append, get_or-map, ext_get_or}
use Rattle.atomic_table.specs.Seated.{TableId}
use Rattle.graph_model.specs.Graph.{numbers_below}
use Rattle.graph_model.proofs.Numbers.{length-numbers_below, get_or-numbers_below}
use Rattle.past_model.specs.declared.entry.Entry.{Entry}
use Rattle.past_model.specs.declared.limits.TheConstants.{FEEDS}
use Rattle.past_model.specs.Past.{of_feed}
use Rattle.past_model.specs.Epochs.{AreSince}
use Rattle.store.specs.Ends.{Feeding, as_new, new_feed, new_feeds, IsFeedOf}
use Rattle.store.specs.Feeds.{AreFeedsOf, AreAllOf, AreDelivered}
use Rattle.store.specs.QueueRule.{Left}
use Rattle.store.specs.QueueViews.{taker}
use Rattle.store.specs.Storing.{Storing}

same_feed : (old new : Feeding) → IsFeedOf old.vertex_count old.queue old.feed new → as_new new ≡ as_new old
same_feed old new (count, queue, feed) = λ i. record { vertex_count = count i; feed = feed i; sent = []; refused = 0; queue = queue i }

-- where one feed did something, the feeds are those that they were
pub feeds_after : (s : Storing) (feeds : List Feeding) (k : ℕ) (new : Feeding) → AreFeedsOf s feeds
    → (let old = get_or feeds k new in IsFeedOf old.vertex_count old.queue old.feed new) → AreFeedsOf s (set feeds k new)
feeds_after s feeds k new of same = map-set_same as_new feeds k new new (same_feed (get_or feeds k new) new same) ∙ of

pub count_feeds : (n : ℕ) (queue : TableId) (feeds : List Feeding) → map as_new feeds ≡ new_feeds n queue → length feeds ≡ FEEDS
count_feeds n queue feeds are =
    let new : ℕ → Feeding = λ feed. new_feed n feed queue in
    sym (length-map feeds as_new) ∙ ap (length {A = Feeding}) are ∙ length-map (numbers_below FEEDS) new ∙ length-numbers_below FEEDS

-- the feed after some of the list has the next number, and is of the same queue
pub next_feed : (n : ℕ) (queue : TableId) (before rest : List Feeding) (x : Feeding) → map as_new (before ++ x ∷ rest) ≡ new_feeds n queue
    → (x.queue ≡ queue) × (x.feed ≡ length before)
next_feed n queue before rest x are =
    let new : ℕ → Feeding = λ feed. new_feed n feed queue in
    let k : ℕ = length before in
    let count = count_feeds n queue (before ++ x ∷ rest) are in
    let few : k < FEEDS = omega (arith, length-append before (x ∷ rest)) in
    let left : get_or (map as_new (before ++ x ∷ rest)) k (as_new x) ≡ as_new x =
    get_or-map as_new (before ++ x ∷ rest) k x (as_new x) (omega arith) ∙ ap as_new (get_or-append_seam before x rest x) in
    let right : get_or (map new (numbers_below FEEDS)) k (as_new x) ≡ new k =
    get_or-map new (numbers_below FEEDS) k 0 (as_new x) (omega (arith, length-numbers_below FEEDS)) ∙ ap new (get_or-numbers_below FEEDS k few) in
    let same : as_new x ≡ new k = sym left ∙ ap (λ (l : List Feeding). get_or l k (as_new x)) are ∙ right in
    (ap (λ (f : Feeding). f.queue) same, ap (λ (f : Feeding). f.feed) same)

-- once all feeds have ended, what each put is its own part of all entries
pub are_all_of : (n : ℕ) (taken items : List Entry) (feeds : List Feeding) → length feeds ≡ FEEDS
    → Left (taker n taken FEEDS (map (λ (f : Feeding). f.sent) feeds)) items → AreAllOf (taken ++ items) feeds
are_all_of n taken items feeds count left =
    let sent : List (List Entry) = map (λ (f : Feeding). f.sent) feeds in
    let own : ℕ → List Entry = λ k. of_feed k (taken ++ items) in
    let many : length sent ≡ FEEDS = length-map feeds (λ (f : Feeding). f.sent) ∙ count in (
      ext_get_or [] sent (map own (numbers_below FEEDS)) (many ∙ sym (length-map (numbers_below FEEDS) own ∙ length-numbers_below FEEDS)) (λ k lt.
          let few : k < FEEDS = omega arith in
          sym (get_or-map own (numbers_below FEEDS) k 0 [] (omega (arith, length-numbers_below FEEDS)) ∙ ap own (get_or-numbers_below FEEDS k few) ∙ left.ended k lt)),
      left.unmade,
    )

-- a feed's batches are those of ended epochs and then the others
split_at : (all since left : List Entry) (marks : List (List ℕ)) (are : AreSince marks all since) (k : ℕ)
    → of_feed k (all ++ left) ≡ of_feed k are.ended ++ of_feed k (since ++ left)
split_at all since left marks are k =
    ap (of_feed k) (ap (λ (l : List Entry). l ++ left) (sym are.whole) ∙ append_assoc are.ended since left)
    ∙ filter-append (λ (e : Entry). e.feed == k) are.ended (since ++ left)

second_nil : (xs ys : List Entry) → xs ++ ys ≡ [] → ys ≡ []
second_nil [] ys is = is
second_nil (x ∷ xs) ys is = absurd (cc is)

-- what was delivered in all, by what ended epochs had
pub are_delivered : (marks : List (List ℕ)) (all since left : List Entry) (feeds : List Feeding) → AreSince marks all since → AreAllOf (all ++ left) feeds
    → AreDelivered marks (since ++ left) feeds
are_delivered marks all since left feeds are (each, none) = record {
  ended = λ k. of_feed k are.ended;
  counted = are.counted;
  each = each ∙ ap (λ (f : ℕ → List Entry). map f (numbers_below FEEDS)) (fun_ext (λ k. split_at all since left marks are k));
  no_other = λ k le. second_nil (of_feed k are.ended) (of_feed k (since ++ left)) (sym (split_at all since left marks are k) ∙ none k le);
}

-- with a feed more they are all below the next number
pub feeds_more : (n number : ℕ) (queue queue' : TableId) (feeds : List Feeding) (x : Feeding) → queue' ≡ queue
    → feeds ≡ map (λ feed. new_feed n feed queue) (numbers_below number) → x ≡ new_feed n number queue
    → feeds ++ x ∷ [] ≡ map (λ feed. new_feed n feed queue') (numbers_below (number + 1))
feeds_more n number queue queue' feeds x same are is =
    let new : ℕ → Feeding = λ feed. new_feed n feed queue in
    let next : suc number ≡ number + 1 = omega arith in
    let more : map new (numbers_below (suc number)) ≡ map new (numbers_below number) ++ new number ∷ [] = map-append new (numbers_below number) (number ∷ []) in
    ap (λ (l : List Feeding). l ++ x ∷ []) are ∙ ap (λ (y : Feeding). map new (numbers_below number) ++ y ∷ []) is ∙ sym more
    ∙ ap (λ (k : ℕ). map new (numbers_below k)) next ∙ ap (λ (q : TableId). map (λ feed. new_feed n feed q) (numbers_below (number + 1))) (sym same)
