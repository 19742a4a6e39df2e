-- A feed puts an entry, and learns.
use Rattle.std.proofs.Common.{◌≡◌, ◌≢◌, ℕ, true, false, Some, List, [], ◌∷◌, ◌++◌, refl, sym, ap, ◌∙◌, subst, inr, arith, append_assoc, length-append}
use Rattle.std.specs.List.{AllByRecursion}
use Rattle.std.proofs.lemmas.List.{map-append}
use Rattle.crossbeam_queue.specs.Fifo.{Pushes, Learns}
use Rattle.past_model.specs.declared.entry.Entry.{Entry}
use Rattle.past_model.specs.Edits.{AreEditsBelow}
use Rattle.store_model.specs.declared.limits.TheConstants.{QUEUE_PLACES}
use Rattle.past_model.specs.Past.{of_feed}
use Rattle.store.specs.declared.queue.queue_view.QueueView.{QueueView}
use Rattle.store.specs.declared.queue.message.Message.{Message}
use Rattle.store.specs.QueueViews.{feeder}
use Rattle.store.specs.QueueRule.{entries_of, Facts, Fits, Keeps, Waits, Puts}
use Rattle.store.proofs.Beginning.{begun}
use Rattle.store.proofs.Changes.{changed, changed_here, changed_else, of_feed_then}
use Rattle.store.proofs.Views.{all_set, two_seats, no_seat}

abbrev with_sent : Facts → ℕ → List Entry → Facts
with_sent f k xs = record { vertex_count = f.vertex_count; taker = f.taker; seat = f.seat; sent = changed f.sent k xs; taken = f.taken }

-- the other passes know nothing of what this feed puts
others_keep : (f : Facts) (k : ℕ) (xs : List Entry) (port : ℕ) → f.seat k ≡ Some port
    → (j : ℕ) (u : QueueView) → j ≢ port → Fits f j u → Fits (with_sent f k xs) j u
others_keep f k xs port seated j u other fits = record {
  begun = fits.begun;
  feed = λ feeds. (
      let was = fits.feed feeds in
      record {
        count = was.count;
        seated = was.seated;
        sent = was.sent ∙ sym (changed_else f.sent k xs u.feed (two_seats f.seat u.feed k j port was.seated seated other));
      });
  taker = λ takes. (
      let was = fits.taker takes in
      record {
        count = was.count;
        seated = was.seated;
        taken = was.taken;
        unmade = λ p le. (
          (was.unmade p le).0,
          changed_else f.sent k xs p (no_seat f.seat p k port (was.unmade p le).0 seated) ∙ (was.unmade p le).1,
        );
        ended = λ p lt. (
          (was.ended p lt).0,
          changed_else f.sent k xs p (no_seat f.seat p k port (was.ended p lt).0 seated) ∙ (was.ended p lt).1,
        );
        fewer = was.fewer;
      });
}

all_behind : {A : Type 0} (P : A → Type 0) (xs : List A) (x : A) → AllByRecursion P xs → P x → AllByRecursion P (xs ++ x ∷ [])
all_behind P [] x all new = (new, tt)
all_behind P (y ∷ ys) x all new = (all.0, all_behind P ys x all.1 new)

pub pushes : (places port : ℕ) (v : QueueView) (x : Message) → places ≡ QUEUE_PLACES → v.feeds ≡ true → x.entry.feed ≡ v.feed
    → AreEditsBelow v.vertex_count x.entry.batch → Pushes Keeps places port v x (Puts v x)
pushes places port v x few may own below items views room keeps at =
    let h = begun items views port v keeps at (inr may) in
    let f = h.facts in
    let e : Entry = x.entry in
    let mine = (h.fits port v at).feed may in
    let w : QueueView = feeder v.vertex_count v.feed (v.sent ++ e ∷ []) in
    let sent : List Entry = f.sent v.feed ++ e ∷ [] in
    let g : Facts = with_sent f v.feed sent in
    let here : Fits g port w = record {
      begun = (refl, refl);
      feed = λ feeds. record {
        count = mine.count;
        seated = mine.seated;
        sent = ap (λ l. l ++ e ∷ []) mine.sent ∙ sym (changed_here f.sent v.feed sent v.feed refl);
      };
      taker = λ (takes : false ≡ true). absurd cc;
    } in
    let all : f.taken ++ entries_of (items ++ x ∷ []) ≡ (f.taken ++ entries_of items) ++ e ∷ [] =
    ap (λ (l : List Entry). f.taken ++ l) (map-append (λ (y : Message). y.entry) items (x ∷ [])) ∙ sym (append_assoc f.taken (entries_of items) (e ∷ [])) in (
      w,
      inr (record {
        facts = g;
        delivered = λ p. ap (of_feed p) all ∙ of_feed_then f.sent (f.taken ++ entries_of items) e v.feed own h.delivered p;
        below = all_behind (λ (y : Message). AreEditsBelow f.vertex_count y.entry.batch) items x h.below (subst (λ n. AreEditsBelow n e.batch) mine.count below);
        bounded = omega (arith, length-append items (x ∷ []));
        fits = all_set g views port w here (λ j u other e. others_keep f v.feed sent port mine.seated j u other (h.fits j u e));
      }),
      refl,
    )

pub waits : (port : ℕ) (v : QueueView) → v.feeds ≡ true → Learns Keeps port v (λ items. Waits v items)
waits port v may items views keeps at =
    let h = begun items views port v keeps at (inr may) in
    let mine = (h.fits port v at).feed may in
    record { taken = h.facts.taken; all = h.delivered v.feed ∙ sym mine.sent }
