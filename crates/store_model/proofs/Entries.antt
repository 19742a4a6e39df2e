-- No batch is lost, doubled or put in another order.
use Rattle.std.proofs.Common.{◌≡◌, ◌==◌, option_map, ℕ, Bool, true, ◌&&◌, nat_lt, is_none, Option, Some, None, List, [], ◌∷◌, ◌++◌, length, refl, sym, ap, subst, ◌∙◌, append_assoc, append-nil}
use Rattle.std.specs.List.{AllByRecursion}
use Rattle.std.proofs.lemmas.Bool.{false≢true, and_parts}
use Rattle.std.proofs.lemmas.List.Elements.{filter-append}
use Rattle.past_model.specs.declared.edit.Edit.{Edit}
use Rattle.past_model.specs.declared.entry.Entry.{Entry}
use Rattle.past_model.specs.Edits.{AreEditsBelow, are_edits_below}
use Rattle.past_model.specs.Past.{Past, IsPast, of_feed}
use Rattle.store_model.specs.declared.event.Event.{Event}
use Rattle.store_model.specs.declared.event.Event.TheVariants.{Submit, Take, Part, Publish, Rebase, Pin, Lend}
use Rattle.store_model.specs.declared.reply.Reply.{Reply}
use Rattle.store_model.specs.declared.reply.Reply.TheVariants.{Done, Refused, Slice, End}
use Rattle.store_model.specs.Core.{Core, Holding, Run, opening_core, held_entries, entries}
use Rattle.store_model.specs.Events.{can, Answers, after_take, after_publish, after_part, after, Happens, Steps, Ran, accepted_by, accepted_entries}
use Rattle.store_model.specs.Laws.{NothingLost, LogIsPast}
use Rattle.past_model.specs.declared.limits.TheConstants.{FEEDS}
use Rattle.past_model.specs.Epochs.{AreSince}
use Rattle.past_model.proofs.Epochs.{since_opening, since_more, since_rebase, IsPast-rebased}
use Rattle.past_model.proofs.Below.{below_from_test}
use Rattle.store_model.specs.declared.limits.TheConstants.{QUEUE_PLACES}
use Rattle.past_model.proofs.Pasts.{IsPast-opening, IsPast-longer}
use Rattle.store_model.proofs.Steps.{runs_keep}

pub entries_take : (past : Past) (queue : List Entry) (held : Option Holding) (runs : List (Option Run)) → is_none held ≡ true
    → let s : Core = record { past = past; queue = queue; held = held; runs = runs } in entries (after_take queue s) ≡ entries s
entries_take past [] held runs none = refl
entries_take past (e ∷ es) None runs none = refl
entries_take past (e ∷ es) (Some h) runs none = absurd (false≢true none)

pub entries_publish : (past : Past) (queue : List Entry) (held : Option Holding) (runs : List (Option Run))
    → let s : Core = record { past = past; queue = queue; held = held; runs = runs } in entries (after_publish held s) ≡ entries s
entries_publish past queue None runs = refl
entries_publish past queue (Some h) runs = append_assoc past.log (h.entry ∷ []) queue

pub entries_part : (held : Option Holding) (range : ℕ) → held_entries (option_map (after_part range) held) ≡ held_entries held
entries_part None range = refl
entries_part (Some h) range = refl

-- a batch that is put at the end
pub entries_submit : (log held queue : List Entry) (e : Entry) → log ++ (held ++ (queue ++ e ∷ [])) ≡ (log ++ (held ++ queue)) ++ e ∷ []
entries_submit log held queue e = ap (λ l. log ++ l) (sym (append_assoc held queue (e ∷ []))) ∙ sym (append_assoc log (held ++ queue) (e ∷ []))

-- an event that happens adds what it accepts to what came since the last rebase
abbrev Since : Core → List Entry → Type 0
Since s all = AreSince s.past.marks all (entries s)

none_more : (s : Core) (all : List Entry) → Since s all → AreSince s.past.marks (all ++ []) (entries s)
none_more s all since = subst (λ l. AreSince s.past.marks l (entries s)) (sym (append-nil all)) since

pub marks_take : (queue : List Entry) (s : Core) → (after_take queue s).past ≡ s.past
marks_take [] s = refl
marks_take (e ∷ es) s = refl

pub marks_publish : (held : Option Holding) (s : Core) → (after_publish held s).past.marks ≡ s.past.marks
marks_publish None s = refl
marks_publish (Some h) s = refl

-- the marks and the batches of this epoch stay
same_since : (s t : Core) (all : List Entry) → t.past.marks ≡ s.past.marks → entries t ≡ entries s → Since s all → Since t (all ++ [])
same_since s t all marks same since =
    subst (λ m. AreSince m (all ++ []) (entries t)) (sym marks)
    (subst (AreSince s.past.marks (all ++ [])) (sym same) (none_more s all since))

pub since_after : (s : Core) (event : Event) (reply : Reply) (all : List Entry) → can s event ≡ true → Answers s event reply → Since s all → Since (after s event reply) (all ++ accepted_by event reply)
since_after s (Submit feed batch) reply all able answers since =
    let e : Entry = record { feed = feed; batch = batch } in
    subst (λ r. AreSince s.past.marks (all ++ accepted_by (Submit feed batch) r) (entries (after s (Submit feed batch) reply))) (sym answers)
    (subst (AreSince s.past.marks (all ++ e ∷ [])) (sym (entries_submit s.past.log (held_entries s.held) s.queue e)) (since_more s.past.marks all (entries s) (e ∷ []) since))
since_after s Take reply all able answers since =
    same_since s (after_take s.queue s) all (ap (λ (p : Past). p.marks) (marks_take s.queue s)) (entries_take s.past s.queue s.held s.runs (and_parts (is_none s.held) (nat_lt 0 (length s.queue)) able).0) since
since_after s (Part range) reply all able answers since =
    same_since s (after s (Part range) reply) all refl (ap (λ l. s.past.log ++ (l ++ s.queue)) (entries_part s.held range)) since
since_after s Publish reply all able answers since =
    same_since s (after_publish s.held s) all (marks_publish s.held s) (entries_publish s.past s.queue s.held s.runs) since
since_after s Rebase reply all able answers since =
    none_more (after s Rebase reply) all (since_rebase s.past.marks all s.past.log (held_entries s.held ++ s.queue) since)
since_after s (Pin reader vertex) reply all able answers since = none_more s all since
since_after s (Lend reader) reply all able answers since = none_more s all since

none_accepted : (event : Event) → accepted_by event Refused ≡ []
none_accepted (Submit feed batch) = refl
none_accepted Take = refl
none_accepted (Part range) = refl
none_accepted Publish = refl
none_accepted Rebase = refl
none_accepted (Pin reader vertex) = refl
none_accepted (Lend reader) = refl

happened_since : (s t : Core) (event : Event) (reply : Reply) (all : List Entry) → Since s all → Happens s event reply t → Since t (all ++ accepted_by event reply)
happened_since s t event reply all since (able, answers, is) =
    subst (λ x. Since x (all ++ accepted_by event reply)) (sym is) (since_after s event reply all able answers since)

step_since : (s t : Core) (event : Event) (reply : Reply) (all : List Entry) → Since s all → Steps s event reply t → Since t (all ++ accepted_by event reply)
step_since s t event Refused all since h =
    subst (λ l. Since t (all ++ l)) (sym (none_accepted event)) (subst (λ x. Since x (all ++ [])) (sym h.1) (none_more s all since))
step_since s t event Done all since h = happened_since s t event Done all since h
step_since s t event (Slice words) all since h = happened_since s t event (Slice words) all since h
step_since s t event End all since h = happened_since s t event End all since h

runs_since : (s t : Core) (events : List Event) (replies : List Reply) (all : List Entry) → Since s all → Ran s events replies t → Since t (all ++ accepted_entries events replies)
runs_since s t [] [] all since h = subst (λ x. Since x (all ++ [])) (sym h) (none_more s all since)
runs_since s t (event ∷ events) (reply ∷ replies) all since (mid, first, rest) =
    subst (Since t) (append_assoc all (accepted_by event reply) (accepted_entries events replies))
    (runs_since mid t events replies (all ++ accepted_by event reply) (step_since s mid event reply all since first) rest)
runs_since s t [] (reply ∷ replies) all since h = absurd h
runs_since s t (event ∷ events) [] all since h = absurd h

pub nothing_lost : NothingLost
nothing_lost n events replies s ran =
    let all : Since s (accepted_entries events replies) = runs_since (opening_core n) s events replies [] (since_opening []) ran in
    record {
      all = all;
      each = λ feed lt. (
          let test : Entry → Bool = λ e. e.feed == feed in (
            of_feed feed all.ended,
            all.counted feed lt,
            ap (λ l. of_feed feed all.ended ++ l) (sym (filter-append test s.past.log (held_entries s.held ++ s.queue) ∙ ap (λ l. of_feed feed s.past.log ++ l) (filter-append test (held_entries s.held) s.queue)))
                ∙ sym (filter-append test all.ended (entries s))
                ∙ ap (of_feed feed) all.whole,
          ));
    }

-- ---- the edits of all batches name vertices

abbrev pub AreBelow : ℕ → List Entry → Type 0
AreBelow n es = AllByRecursion (λ (e : Entry). AreEditsBelow n e.batch) es

pub below_append : (n : ℕ) (xs ys : List Entry) → AreBelow n xs → AreBelow n ys → AreBelow n (xs ++ ys)
below_append n [] ys low high = high
below_append n (x ∷ xs) ys low high = (low.0, below_append n xs ys low.1 high)

-- the last version is one, and the edits of what is held and what waits name vertices
record AreSound (s : Core) : Type 0 where
  past : IsPast s.past
  held : AreBelow s.past.vertex_count (held_entries s.held)
  queue : AreBelow s.past.vertex_count s.queue

sound_take : (past : Past) (queue : List Entry) (held : Option Holding) (runs : List (Option Run))
    → let s : Core = record { past = past; queue = queue; held = held; runs = runs } in AreSound s → AreSound (after_take queue s)
sound_take past [] held runs now = now
sound_take past (e ∷ es) held runs now = record { past = now.past; held = (now.queue.0, tt); queue = now.queue.1 }

sound_publish : (past : Past) (queue : List Entry) (held : Option Holding) (runs : List (Option Run))
    → let s : Core = record { past = past; queue = queue; held = held; runs = runs } in AreSound s → AreSound (after_publish held s)
sound_publish past queue None runs now = now
sound_publish past queue (Some h) runs now = record { past = IsPast-longer past h.entry now.past now.held.0; held = tt; queue = now.queue }

sound_part : (n range : ℕ) (held : Option Holding) → AreBelow n (held_entries held) → AreBelow n (held_entries (option_map (after_part range) held))
sound_part n range None now = now
sound_part n range (Some h) now = now

accepted_below : (s : Core) (feed : ℕ) (batch : List Edit) → can s (Submit feed batch) ≡ true → AreEditsBelow s.past.vertex_count batch
accepted_below s feed batch able =
    let room = and_parts (nat_lt feed FEEDS) (nat_lt (length s.queue) QUEUE_PLACES && are_edits_below s.past.vertex_count batch) able in
    below_from_test s.past.vertex_count batch (and_parts (nat_lt (length s.queue) QUEUE_PLACES) (are_edits_below s.past.vertex_count batch) room.1).1

sound_after : (s : Core) (event : Event) (reply : Reply) → can s event ≡ true → AreSound s → AreSound (after s event reply)
sound_after s (Submit feed batch) reply able now = record {
  past = now.past;
  held = now.held;
  queue = below_append s.past.vertex_count s.queue _ now.queue (accepted_below s feed batch able, tt);
}
sound_after s Take reply able now = sound_take s.past s.queue s.held s.runs now
sound_after s (Part range) reply able now = record { past = now.past; held = sound_part s.past.vertex_count range s.held now.held; queue = now.queue }
sound_after s Publish reply able now = sound_publish s.past s.queue s.held s.runs now
sound_after s Rebase reply able now = record { past = IsPast-rebased s.past now.past; held = now.held; queue = now.queue }
sound_after s (Pin reader vertex) reply able now = record { past = now.past; held = now.held; queue = now.queue }
sound_after s (Lend reader) reply able now = record { past = now.past; held = now.held; queue = now.queue }

still_sound : (s t : Core) (event : Event) (reply : Reply) → AreSound s → Happens s event reply t → AreSound t
still_sound s t event reply now (able, answers, is) = subst AreSound (sym is) (sound_after s event reply able now)

pub log_is_past : LogIsPast
log_is_past n events replies s ran =
    (runs_keep AreSound still_sound (opening_core n) s events replies (record { past = IsPast-opening n; held = tt; queue = tt }) ran).past

-- no event changes how many vertices there are
count_take : (queue : List Entry) (s : Core) → (after_take queue s).past.vertex_count ≡ s.past.vertex_count
count_take [] s = refl
count_take (e ∷ es) s = refl

count_publish : (held : Option Holding) (s : Core) → (after_publish held s).past.vertex_count ≡ s.past.vertex_count
count_publish None s = refl
count_publish (Some h) s = refl

pub count_after : (s : Core) (event : Event) (reply : Reply) → (after s event reply).past.vertex_count ≡ s.past.vertex_count
count_after s (Submit feed batch) reply = refl
count_after s Take reply = count_take s.queue s
count_after s (Part range) reply = refl
count_after s Publish reply = count_publish s.held s
count_after s Rebase reply = refl
count_after s (Pin reader vertex) reply = refl
count_after s (Lend reader) reply = refl
