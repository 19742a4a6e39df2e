use Rattle.std.proofs.Common.{◌≡◌, ℕ, suc, ◌<◌, List, [], ◌∷◌, map, length, get_or, refl, arith, rules}
use Rattle.store.specs.Ends.{Feeding, IsFeedOf, as_new}
use Rattle.test_calls.proofs.stores.threads.submit_by_each.Goals as goal

-- feeds that are what they were, one by one
same_feeds : (old new : List Feeding) → length new ≡ length old
    → ((k : ℕ) (d : Feeding) → k < length old → IsFeedOf (get_or old k d).vertex_count (get_or old k d).queue (get_or old k d).feed (get_or new k d))
    → map as_new new ≡ map as_new old
same_feeds [] [] long same = refl
same_feeds [] (y ∷ ys) long same = absurd (omega arith)
same_feeds (x ∷ xs) [] long same = absurd (omega arith)
same_feeds (x ∷ xs) (y ∷ ys) long same =
    let first = same 0 x (omega arith) in
    let rest = same_feeds xs ys (omega arith) (λ k d lt. same (suc k) d (omega arith)) in
    λ i. (record { vertex_count = first.0 i; feed = first.2 i; sent = []; refused = 0; queue = first.1 i }) ∷ rest i

pub returns : goal.returns
returns g c = same_feeds c.args.feeds.now c.for_each_mut.new.s c.for_each_mut.auto.s (λ k d lt. let h = c.for_each_mut.ensures k d lt in search rules)
