-- Feeds begin and end.
use Rattle.std.proofs.Common.{◌≡◌, ◌≢◌, ℕ, ◌+◌, ◌<◌, true, false, Option, Some, None, List, [], ◌∷◌, ◌++◌, length, set, slice_index_or, refl, sym, ap, ◌∙◌, subst, inl, inr, ⊎_elim, lt_of_not-le, arith, length-append}
use Rattle.std.proofs.Math.Seq.{get_or-append_seam}
use Rattle.std.proofs.lemmas.List.{get_or_append_left}
use native.Mathlib.Decide.{ℕ_discrete, dec_le}
use mathlib.Core.Option.{some}
use lib.ListN.{get_elem?}
use Rattle.crossbeam_queue.specs.Fifo.{Forks, Merges}
use Rattle.crossbeam_queue.proofs.Lists.{at_set}
use Rattle.past_model.specs.declared.entry.Entry.{Entry}
use Rattle.store.specs.declared.queue.queue_view.QueueView.{QueueView}
use Rattle.store.specs.QueueViews.{taker, feeder, spent_view}
use Rattle.store.specs.QueueRule.{Facts, FitsFeed, Fits, Keeps}
use Rattle.store.proofs.Beginning.{begun}
use Rattle.store.proofs.Changes.{changed, changed_here, changed_else}
use Rattle.store.proofs.Views.{all_set, at_end, two_seats, no_seat}

abbrev with_seat : Facts → ℕ → Option ℕ → Facts
with_seat f k to = record { vertex_count = f.vertex_count; taker = f.taker; seat = changed f.seat k to; sent = f.sent; taken = f.taken }

-- a feed's pass stays, where another feed's seat is changed
feed_stays : (f : Facts) (k : ℕ) (to : Option ℕ) (j : ℕ) (u : QueueView) → u.feed ≢ k → FitsFeed f j u → FitsFeed (with_seat f k to) j u
feed_stays f k to j u other was = record { count = was.count; seated = changed_else f.seat k to u.feed other ∙ was.seated; sent = was.sent }

pub forks : (port : ℕ) (v : QueueView) → v.takes ≡ true
    → Forks Keeps port v (taker v.vertex_count v.taken (v.made + 1) v.ended) (feeder v.vertex_count v.made [])
forks port v may items views keeps at =
    let h = begun items views port v keeps at (inl may) in
    let f = h.facts in
    let mine = (h.fits port v at).taker may in
    let left : QueueView = taker v.vertex_count v.taken (v.made + 1) v.ended in
    let right : QueueView = feeder v.vertex_count v.made [] in
    let vs : List QueueView = set views port left in
    let g : Facts = with_seat f v.made (Some (length vs)) in
    let free : f.seat v.made ≡ None = (mine.unmade v.made (omega arith)).0 in
    let away : (p : ℕ) → p ≢ v.made → g.seat p ≡ f.seat p = λ p other. changed_else f.seat v.made (Some (length vs)) p other in
    let here : Fits g port left = record {
      begun = (refl, refl);
      feed = λ (feeds : false ≡ true). absurd cc;
      taker = λ takes. record {
        count = mine.count;
        seated = mine.seated;
        taken = mine.taken;
        unmade = λ p le. (away p (λ is. omega arith) ∙ (mine.unmade p (omega arith)).0, (mine.unmade p (omega arith)).1);
        ended = λ k lt. (let fewer = mine.fewer in away k (λ is. omega arith) ∙ (mine.ended k lt).0, (mine.ended k lt).1);
        fewer = (let fewer = mine.fewer in omega arith);
      };
    } in
    let others : (j : ℕ) (u : QueueView) → j ≢ port → get_elem? views j ≡ some u → Fits g j u = λ j u other e. record {
      begun = (h.fits j u e).begun;
      feed = λ feeds. (
          let was = (h.fits j u e).feed feeds in
          feed_stays f v.made (Some (length vs)) j u (λ is. no_seat f.seat v.made u.feed j free was.seated (sym is)) was);
      taker = λ takes. absurd (other (((h.fits j u e).taker takes).seated ∙ sym mine.seated));
    } in
    let made : Fits g (length vs) right = record {
      begun = (refl, refl);
      feed = λ feeds. record { count = mine.count; seated = changed_here f.seat v.made (Some (length vs)) v.made refl; sent = sym (mine.unmade v.made (omega arith)).1 };
      taker = λ (takes : false ≡ true). absurd cc;
    } in
    inr (record {
      facts = g;
      delivered = h.delivered;
      below = h.below;
      bounded = h.bounded;
      fits = λ j u e. ⊎_elim
          (λ (is : get_elem? vs j ≡ some u). all_set g views port left here others j u is)
          (λ (is : (j ≡ length vs) × (right ≡ u)). subst (λ (y : ℕ × QueueView). Fits g y.0 y.1) (λ i. (sym is.0 i, is.1 i)) made)
          (at_end vs right u j e);
    })

pub merges : (port : ℕ) (v : QueueView) (other : ℕ) (w : QueueView) → v.takes ≡ true → w.feeds ≡ true → w.feed ≡ length v.ended
    → Merges Keeps port v other w (taker v.vertex_count v.taken v.made (v.ended ++ w.sent ∷ [])) spent_view
merges port v other w may feeds next items views keeps at apart at' =
    let h = begun items views port v keeps at (inl may) in
    let f = h.facts in
    let mine = (h.fits port v at).taker may in
    let ended : List (List Entry) = v.ended ++ w.sent ∷ [] in
    let both : QueueView = taker v.vertex_count v.taken v.made ended in
    let vs : List QueueView = set views port both in
    let was : get_elem? views other ≡ some w = ⊎_elim
    (λ (is : (other ≡ port) × (both ≡ w)). absurd (apart is.0))
    (λ (is : (other ≢ port) × (get_elem? views other ≡ some w)). is.1)
    (at_set views port other both w at') in
    let theirs = (h.fits other w was).feed feeds in
    let g : Facts = with_seat f w.feed None in
    let away : (p : ℕ) → p ≢ w.feed → g.seat p ≡ f.seat p = λ p ne. changed_else f.seat w.feed None p ne in
    let gone : g.seat w.feed ≡ None = changed_here f.seat w.feed None w.feed refl in
    let below : w.feed < v.made = elim (dec_le v.made w.feed) [
      | yes le ↦ (let none : Some other ≡ None = sym theirs.seated ∙ (mine.unmade w.feed le).0 in absurd (cc none))
      | no lt ↦ lt_of_not-le lt
    ] in
    let here : Fits g port both = record {
      begun = (refl, refl);
      feed = λ (feeds : false ≡ true). absurd cc;
      taker = λ takes. record {
        count = mine.count;
        seated = mine.seated;
        taken = mine.taken;
        unmade = λ p le. (away p (λ is. omega arith) ∙ (mine.unmade p le).0, (mine.unmade p le).1);
        ended = λ k lt. elim (ℕ_discrete k w.feed) [
          | yes is ↦ (changed_here f.seat w.feed None k is, ap f.sent is ∙ sym theirs.sent ∙ sym (ap (λ (i : ℕ). slice_index_or ended i []) (is ∙ next) ∙ get_or-append_seam v.ended w.sent [] []))
          | no ne ↦ (let before : k < length v.ended = omega (arith, length-append v.ended (w.sent ∷ [])) in
              (away k ne ∙ (mine.ended k before).0, (mine.ended k before).1 ∙ sym (get_or_append_left v.ended (w.sent ∷ []) [] k before)))
        ];
        fewer = omega (arith, length-append v.ended (w.sent ∷ []));
      };
    } in
    let others : (j : ℕ) (u : QueueView) → j ≢ other → j ≢ port → get_elem? views j ≡ some u → Fits g j u = λ j u ne ne' e. record {
      begun = (h.fits j u e).begun;
      feed = λ feeds. (
          let it = (h.fits j u e).feed feeds in
          feed_stays f w.feed None j u (λ is. two_seats f.seat u.feed w.feed j other it.seated theirs.seated ne is) it);
      taker = λ takes. absurd (ne' (((h.fits j u e).taker takes).seated ∙ sym mine.seated));
    } in
    let none : Fits g other spent_view = record { begun = (refl, refl); feed = λ (feeds : false ≡ true). absurd cc; taker = λ (takes : false ≡ true). absurd cc } in
    inr (record {
      facts = g;
      delivered = h.delivered;
      below = h.below;
      bounded = h.bounded;
      fits = all_set g vs other spent_view none (λ j u ne e. ⊎_elim
          (λ (is : (j ≡ port) × (both ≡ u)). subst (λ (y : ℕ × QueueView). Fits g y.0 y.1) (λ i. (sym is.0 i, is.1 i)) here)
          (λ (is : (j ≢ port) × (get_elem? views j ≡ some u)). others j u ne is.0 is.1)
          (at_set views port j both u e));
    })
