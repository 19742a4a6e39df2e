-- An entry is taken, and the pass that takes learns.
use Rattle.std.proofs.Common.{◌≡◌, ◌<◌, ◌≢◌, ℕ, ◌≤◌, true, false, List, [], ◌∷◌, ◌++◌, length, refl, sym, ap, ◌∙◌, subst, inl, inr, arith, append_assoc, append-nil, length-append, lt_of_not-le}
use Rattle.std.proofs.lemmas.List.{length-map}
use native.Mathlib.Decide.{dec_le}
use Rattle.crossbeam_queue.specs.Fifo.{Pops, Learns, Held}
use Rattle.past_model.specs.declared.entry.Entry.{Entry}
use Rattle.past_model.specs.Edits.{AreEditsBelow}
use Rattle.past_model.specs.declared.limits.TheConstants.{FEEDS}
use Rattle.store_model.specs.declared.limits.TheConstants.{QUEUE_PLACES}
use Rattle.past_model.specs.Past.{of_feed}
use Rattle.store.specs.declared.queue.queue_view.QueueView.{QueueView}
use Rattle.store.specs.declared.queue.message.Message.{Message}
use Rattle.store.specs.QueueViews.{taker}
use Rattle.store.specs.QueueRule.{entries_of, Facts, FitsTaker, Fits, Keeps, Left, Takes}
use Rattle.store.specs.Ends.{Taking, WasEmpty}
use Rattle.store.proofs.Beginning.{begun}
use Rattle.store.proofs.Changes.{of_feed_append, of_feed_own}
use Rattle.store.proofs.Views.{all_set}

abbrev with_taken : Facts → List Entry → Facts
with_taken f xs = record { vertex_count = f.vertex_count; taker = f.taker; seat = f.seat; sent = f.sent; taken = xs }

-- the other passes know nothing of what was taken
others_keep : (f : Facts) (xs : List Entry) (port : ℕ) → port ≡ f.taker
    → (j : ℕ) (u : QueueView) → j ≢ port → Fits f j u → Fits (with_taken f xs) j u
others_keep f xs port seated j u other fits = record {
  begun = fits.begun;
  feed = λ feeds. (let was = fits.feed feeds in record { count = was.count; seated = was.seated; sent = was.sent });
  taker = λ takes. absurd (other ((fits.taker takes).seated ∙ sym seated));
}

-- what the pass knows of what is left, from the rule
left_of : (f : Facts) (pass : ℕ) (v : QueueView) (items : List Entry) → FitsTaker f pass v
    → ((p : ℕ) → of_feed p (f.taken ++ items) ≡ f.sent p) → length items ≤ QUEUE_PLACES → Left v items
left_of f pass v items fits all bounded =
    let same : (p : ℕ) → of_feed p (v.taken ++ items) ≡ f.sent p = λ p. ap (λ l. of_feed p (l ++ items)) fits.taken ∙ all p in
    record {
      ended = λ k lt. same k ∙ (fits.ended k lt).1;
      unmade = λ p le. same p ∙ (fits.unmade p le).1;
      bounded = bounded;
    }

few_left : (items : List Message) → length items ≤ QUEUE_PLACES → length (entries_of items) ≤ QUEUE_PLACES
few_left items few = rw (length-map items (λ (x : Message). x.entry)) few

pub pops : (port : ℕ) (v : QueueView) → v.takes ≡ true → Pops Keeps port v (Takes v)
pops port v may x items views keeps at =
    let h = begun (x ∷ items) views port v keeps at (inl may) in
    let f = h.facts in
    let e : Entry = x.entry in
    let mine = (h.fits port v at).taker may in
    let w : QueueView = taker v.vertex_count (v.taken ++ e ∷ []) v.made v.ended in
    let g : Facts = with_taken f (f.taken ++ e ∷ []) in
    let mine' : FitsTaker g port w = record {
      count = mine.count;
      seated = mine.seated;
      taken = ap (λ l. l ++ e ∷ []) mine.taken;
      unmade = mine.unmade;
      ended = mine.ended;
      fewer = mine.fewer;
    } in
    let here : Fits g port w = record { begun = (refl, refl); feed = λ (feeds : false ≡ true). absurd cc; taker = λ takes. mine' } in
    let all : (p : ℕ) → of_feed p (g.taken ++ entries_of items) ≡ g.sent p = λ p. ap (of_feed p) (append_assoc f.taken (e ∷ []) (entries_of items)) ∙ h.delivered p in
    let short : length items ≤ QUEUE_PLACES = (let few = h.bounded in omega arith) in (
      w,
      inr (record {
        facts = g;
        delivered = all;
        below = h.below.1;
        bounded = short;
        fits = all_set g views port w here (λ j u other at. others_keep f (f.taken ++ e ∷ []) port mine.seated j u other (h.fits j u at));
      }),
      (refl, subst (λ n. AreEditsBelow n e.batch) (sym mine.count) h.below.0, (entries_of items, left_of g port w (entries_of items) mine' all (few_left items short))),
    )

pub left : (port : ℕ) (v : QueueView) → v.takes ≡ true → Learns Keeps port v (λ items. Left v (entries_of items))
left port v may items views keeps at =
    let h = begun items views port v keeps at (inl may) in
    left_of h.facts port v (entries_of items) ((h.fits port v at).taker may) h.delivered (few_left items h.bounded)

-- a pass that knows of nothing left, and made all feeds, took all
pub was_empty : (v : QueueView) (t : Taking) → v.made ≡ FEEDS → v.taken ≡ t.taken → Held 0 (λ items. Left v (entries_of items)) → WasEmpty t
was_empty v t made taken ([], none, left) = record {
  sent = λ p. of_feed p t.taken;
  all = λ p. refl;
  no_other = λ p le. (
      let here : of_feed p (v.taken ++ []) ≡ [] = left.unmade p (omega arith) in
      ap (of_feed p) (sym (ap (λ l. l ++ []) taken ∙ append-nil t.taken)) ∙ here);
}
was_empty v t made taken (x ∷ items, none, left) = absurd (omega arith)

-- what was taken is of a feed that was made
pub of_made : (n : ℕ) (taken rest : List Entry) (ended : List (List Entry)) (x : Entry) → Left (taker n (taken ++ x ∷ []) FEEDS ended) rest → x.feed < FEEDS
of_made n taken rest ended x knows = elim (dec_le FEEDS x.feed) [
  | yes le ↦ (
      let p : ℕ = x.feed in
      let all : (of_feed p taken ++ of_feed p (x ∷ [])) ++ of_feed p rest ≡ [] =
      ap (λ (l : List Entry). l ++ of_feed p rest) (sym (of_feed_append p taken (x ∷ []))) ∙ sym (of_feed_append p (taken ++ x ∷ []) rest) ∙ knows.unmade p le in
      let one = ap (length {A = Entry}) (of_feed_own p x refl) in
      let none = ap (length {A = Entry}) all in
      absurd (omega (arith, length-append (of_feed p taken ++ of_feed p (x ∷ [])) (of_feed p rest), length-append (of_feed p taken) (of_feed p (x ∷ [])))))
  | no lt ↦ lt_of_not-le lt
]
