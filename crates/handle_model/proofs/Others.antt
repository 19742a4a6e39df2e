-- What the events of others leave as it was.
use Rattle.std.proofs.Common.{◌≡◌, ◌==◌, ◌<◌, nat_lt, is_none, length, length-append, append_assoc, arith, ℕ, true, false, Option, Some, None, List, [], ◌∷◌, ◌++◌, slice_index_or, option_map, refl, sym, ap, subst, ◌∙◌, append-nil}
use Rattle.std.proofs.lemmas.Bool.{eqb-false, true≢false, and_parts}
use Rattle.std.proofs.lemmas.List.{get_or-set_other}
use Rattle.std.proofs.lemmas.List.Elements.{filter-append}
use Rattle.past_model.specs.declared.entry.Entry.{Entry}
use Rattle.store_model.specs.declared.event.Event.{Event}
use Rattle.store_model.specs.declared.event.Event.TheVariants.{Submit, Take, Part, Publish, Rebase, Pin, Lend}
use Rattle.store_model.specs.declared.reply.Reply.{Reply}
use Rattle.store_model.specs.declared.reply.Reply.TheVariants.{Done, Refused, Slice, End}
use Rattle.store_model.specs.Core.{Core, Holding, run_of, entries, held_entries}
use Rattle.past_model.specs.declared.limits.TheConstants.{FEEDS}
use Rattle.past_model.specs.Past.{Past, of_feed}
use Rattle.past_model.specs.Epochs.{mark_of, ended_batches}
use Rattle.past_model.proofs.Epochs.{ended_batches-push, marked-mark_of}
use Rattle.handle_model.specs.Sights.{FeedSees}
use Rattle.store_model.specs.Events.{IsBeginning, can, after, after_take, after_publish, after_lend, Happens}
use Rattle.store_model.proofs.Entries.{entries_submit, entries_take, entries_publish, entries_part, marks_take, marks_publish, count_after}
use Rattle.handle_model.specs.Calls.{is_of_reader}
use Rattle.handle_model.specs.Laws.{is_submission_of, is_of_publisher, OthersLeave, EachToItsOwn}

-- a batch of another feed is none of this one
not_of : (feed by : ℕ) (batch : _) → (by == feed) ≡ false → let e : Entry = record { feed = by; batch = batch } in of_feed feed (e ∷ []) ≡ []
not_of feed by batch other = simp other

-- the feed sees the same where its batches and the marks are the same
still_sees : (s t : Core) (n feed : ℕ) (sent : List Entry) → t.past.vertex_count ≡ s.past.vertex_count → t.past.marks ≡ s.past.marks
    → of_feed feed (entries t) ≡ of_feed feed (entries s) → FeedSees s n feed sent → FeedSees t n feed sent
still_sees s t n feed sent counts marks same sees = record {
  count = counts ∙ sees.count;
  ended = sees.ended;
  counted = sees.counted ∙ ap (λ m. ended_batches m feed) (sym marks);
  all_sent = ap (λ l. sees.ended ++ l) same ∙ sees.all_sent;
}

feeds_left : (s : Core) (event : Event) (reply : Reply) → can s event ≡ true → (n feed : ℕ) (sent : List Entry) → feed < FEEDS → is_submission_of feed event ≡ false
    → FeedSees s n feed sent → FeedSees (after s event reply) n feed sent
feeds_left s (Submit by batch) reply able n feed sent is other sees =
    let e : Entry = record { feed = by; batch = batch } in
    still_sees s (after s (Submit by batch) reply) n feed sent refl refl
    (ap (of_feed feed) (entries_submit s.past.log (held_entries s.held) s.queue e)
    ∙ filter-append (λ (x : Entry). x.feed == feed) (entries s) (e ∷ [])
    ∙ ap (λ l. of_feed feed (entries s) ++ l) (not_of feed by batch other) ∙ append-nil (of_feed feed (entries s))) sees
feeds_left s Take reply able n feed sent is other sees =
    still_sees s (after_take s.queue s) n feed sent (count_after s Take reply) (ap (λ (p : Past). p.marks) (marks_take s.queue s))
    (ap (of_feed feed) (entries_take s.past s.queue s.held s.runs (and_parts (is_none s.held) (nat_lt 0 (length s.queue)) able).0)) sees
feeds_left s (Part range) reply able n feed sent is other sees =
    still_sees s (after s (Part range) reply) n feed sent refl refl
    (ap (λ l. of_feed feed (s.past.log ++ (l ++ s.queue))) (entries_part s.held range)) sees
feeds_left s Publish reply able n feed sent is other sees =
    still_sees s (after_publish s.held s) n feed sent (count_after s Publish reply) (marks_publish s.held s)
    (ap (of_feed feed) (entries_publish s.past s.queue s.held s.runs)) sees
feeds_left s Rebase reply able n feed sent is other sees = record {
  count = sees.count;
  ended = sees.ended ++ of_feed feed s.past.log;
  counted = omega (arith, length-append sees.ended (of_feed feed s.past.log), sees.counted, ended_batches-push s.past.marks (mark_of s.past.log) feed, marked-mark_of s.past.log feed is);
  all_sent =
      append_assoc sees.ended (of_feed feed s.past.log) (of_feed feed (held_entries s.held ++ s.queue))
      ∙ ap (λ l. sees.ended ++ l) (sym (filter-append (λ (x : Entry). x.feed == feed) s.past.log (held_entries s.held ++ s.queue)))
      ∙ sees.all_sent;
}
feeds_left s (Pin reader vertex) reply able n feed sent is other sees = still_sees s (after s (Pin reader vertex) reply) n feed sent refl refl refl sees
feeds_left s (Lend reader) reply able n feed sent is other sees = still_sees s (after s (Lend reader) reply) n feed sent refl refl refl sees

abbrev IsLeft : Core → Core → Type 0
IsLeft s t = (t.past ≡ s.past) × (t.held ≡ s.held) × IsBeginning s.queue t.queue

publisher_left : (s : Core) (event : Event) (reply : Reply) → is_of_publisher event ≡ false → IsLeft s (after s event reply)
publisher_left s (Submit feed batch) reply other = (refl, refl, ((record { feed = feed; batch = batch }) ∷ [], refl))
publisher_left s Take reply other = absurd (true≢false other)
publisher_left s (Part range) reply other = absurd (true≢false other)
publisher_left s Publish reply other = absurd (true≢false other)
publisher_left s Rebase reply other = absurd (true≢false other)
publisher_left s (Pin reader vertex) reply other = (refl, refl, ([], sym (append-nil s.queue)))
publisher_left s (Lend reader) reply other = (refl, refl, ([], sym (append-nil s.queue)))

runs_take : (queue : List Entry) (s : Core) → (after_take queue s).runs ≡ s.runs
runs_take [] s = refl
runs_take (e ∷ es) s = refl

runs_publish : (held : Option Holding) (s : Core) → (after_publish held s).runs ≡ s.runs
runs_publish None s = refl
runs_publish (Some h) s = refl

readers_left : (s : Core) (event : Event) (reply : Reply) (reader : ℕ) → is_of_reader reader event ≡ false → run_of (after s event reply) reader ≡ run_of s reader
readers_left s (Submit feed batch) reply reader other = refl
readers_left s Take reply reader other = ap (λ l. slice_index_or l reader None) (runs_take s.queue s)
readers_left s (Part range) reply reader other = refl
readers_left s Publish reply reader other = ap (λ l. slice_index_or l reader None) (runs_publish s.held s)
readers_left s Rebase reply reader other = refl
readers_left s (Pin by vertex) reply reader other =
    get_or-set_other s.runs by reader (Some (record { past = s.past; vertex = vertex; lent = []; ended = false })) None (λ same. eqb-false by reader other (sym same))
readers_left s (Lend by) reply reader other =
    get_or-set_other s.runs by reader (option_map (after_lend reply) (run_of s by)) None (λ same. eqb-false by reader other (sym same))

happened : (s t : Core) (event : Event) (reply : Reply) → Happens s event reply t → OthersLeave s event t
happened s t event reply (able, answers, is) =
    subst (OthersLeave s event) (sym is)
    (record {
      count = count_after s event reply;
      of_feeds = λ n feed sent is other. feeds_left s event reply able n feed sent is other;
      of_publisher = publisher_left s event reply;
      of_readers = readers_left s event reply;
    })

unchanged : (s : Core) (event : Event) → OthersLeave s event s
unchanged s event =
    record {
      count = refl;
      of_feeds = λ n feed sent is other sees. sees;
      of_publisher = λ other. (refl, refl, ([], sym (append-nil s.queue)));
      of_readers = λ reader other. refl;
    }

pub each_to_its_own : EachToItsOwn
each_to_its_own s t event Refused step = subst (OthersLeave s event) (sym step.1) (unchanged s event)
each_to_its_own s t event Done step = happened s t event Done step
each_to_its_own s t event (Slice words) step = happened s t event (Slice words) step
each_to_its_own s t event End step = happened s t event End step
