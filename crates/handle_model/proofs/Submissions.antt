-- A submission, and what a feed sees of it.
use Rattle.std.proofs.Common.{◌≡◌, ◌==◌, ℕ, ◌<◌, ◌&&◌, nat_lt, true, List, [], ◌∷◌, ◌++◌, length, refl, ap, sym, ◌∙◌, append_assoc}
use Rattle.std.proofs.lemmas.Bool.{and_from, lt-ltb, eq-eqb}
use Rattle.std.proofs.lemmas.List.Elements.{filter-append}
use Rattle.past_model.specs.declared.edit.Edit.{Edit}
use Rattle.past_model.specs.declared.entry.Entry.{Entry}
use Rattle.past_model.specs.Edits.{AreEditsBelow, are_edits_below}
use Rattle.store_model.specs.declared.event.Event.TheVariants.{Submit}
use Rattle.store_model.specs.Core.{Core, entries, held_entries}
use Rattle.past_model.specs.declared.limits.TheConstants.{FEEDS}
use Rattle.past_model.specs.Past.{of_feed}
use Rattle.past_model.proofs.Below.{test_from_below}
use Rattle.store_model.specs.declared.limits.TheConstants.{QUEUE_PLACES}
use Rattle.store_model.specs.Events.{can}
use Rattle.store_model.proofs.Entries.{entries_submit}
use Rattle.handle_model.specs.Laws.{SubmissionsAre}

pub able : (s : Core) (n feed : ℕ) (batch : List Edit) → s.past.vertex_count ≡ n → feed < FEEDS → length s.queue < QUEUE_PLACES → AreEditsBelow n batch → can s (Submit feed batch) ≡ true
able s n feed batch count some room below =
    and_from (nat_lt feed FEEDS) (nat_lt (length s.queue) QUEUE_PLACES && are_edits_below s.past.vertex_count batch) (lt-ltb feed FEEDS some)
    (and_from (nat_lt (length s.queue) QUEUE_PLACES) (are_edits_below s.past.vertex_count batch) (lt-ltb (length s.queue) QUEUE_PLACES room)
    (ap (λ m. are_edits_below m batch) count ∙ test_from_below n batch below))

own : (feed : ℕ) (batch : List Edit) → let e : Entry = record { feed = feed; batch = batch } in of_feed feed (e ∷ []) ≡ e ∷ []
own feed batch = simp (eq-eqb feed feed refl)

pub submissions_are : SubmissionsAre
submissions_are n feed batch sent some below s sees room =
    let e : Entry = record { feed = feed; batch = batch } in (
      record s { queue = s.queue ++ e ∷ [] },
      (able s n feed batch sees.count some room below, refl, refl),
      record {
        count = sees.count;
        ended = sees.ended;
        counted = sees.counted;
        all_sent =
            ap (λ l. sees.ended ++ l) (ap (of_feed feed) (entries_submit s.past.log (held_entries s.held) s.queue e)
            ∙ filter-append (λ (x : Entry). x.feed == feed) (entries s) (e ∷ []))
            ∙ sym (append_assoc sees.ended (of_feed feed (entries s)) (of_feed feed (e ∷ [])))
            ∙ ap (λ l. l ++ of_feed feed (e ∷ [])) sees.all_sent
            ∙ ap (λ l. sent ++ l) (own feed batch);
      },
    )
