-- Events: which can happen, what they do and are answered, one and in lists.
use Rattle.std.specs.Prelude.{◌≡◌, ℕ, ◌<◌, Bool, true, false, ◌&&◌, nat_lt, List, [], ◌∷◌, ◌++◌, length, slice_set, Option, Some, None, option_map, is_some, is_none, MatchOption}
use Rattle.past_model.specs.declared.entry.Entry.{Entry}
use Rattle.past_model.specs.Edits.{are_edits_below}
use Rattle.past_model.specs.Past.{longer}
use Rattle.past_model.specs.Epochs.{rebased}
use Rattle.past_model.specs.declared.limits.TheConstants.{FEEDS}
use Rattle.store_model.specs.declared.limits.TheConstants.{READERS, QUEUE_PLACES}
use Rattle.store_model.specs.declared.event.Event.{Event}
use Rattle.store_model.specs.declared.event.Event.TheVariants.{Submit, Take, Part, Publish, Rebase, Pin, Lend}
use Rattle.store_model.specs.declared.reply.Reply.{Reply}
use Rattle.store_model.specs.declared.reply.Reply.TheVariants.{Done, Refused, Slice, End}
use Rattle.store_model.specs.Core.{Core, Holding, Run, is_open, is_whole, words_of, run_of}

-- a batch is held, and passes a test
abbrev pub is_held_and : (Holding → Bool) → Option Holding → Bool
is_held_and test None = false
is_held_and test (Some h) = test h

-- an event can happen; each other one is refused
abbrev pub can : Core → Event → Bool
can s (Submit feed batch) =
    nat_lt feed FEEDS && (nat_lt (length s.queue) QUEUE_PLACES && are_edits_below s.past.vertex_count batch)
can s Take = is_none s.held && nat_lt 0 (length s.queue)
can s (Part range) = is_held_and (λ h. is_open h range) s.held
can s Publish = is_held_and is_whole s.held
can s Rebase = true
can s (Pin reader vertex) = nat_lt reader READERS && nat_lt vertex s.past.vertex_count
can s (Lend reader) = is_some (run_of s reader)

abbrev pub IsBeginning : {A : Type 0} → List A → List A → Type 0
IsBeginning {A = A} xs ys = (rest : List A) × (ys ≡ xs ++ rest)

-- what a lend may answer where these words are to be lent and those were lent: some more of them, or the
-- end exactly where all were. How many at once is left open
abbrev pub Lends : List ℕ → List ℕ → Reply → Type 0
Lends all lent (Slice words) = (0 < length words.items) × IsBeginning (lent ++ words.items) all
Lends all lent End = lent ≡ all
Lends all lent Done = ⊥
Lends all lent Refused = ⊥

-- what an event that happens may be answered
abbrev pub Answers : Core → Event → Reply → Type 0
Answers s (Lend reader) reply = MatchOption (run_of s reader) ⊥ (λ run. Lends (words_of run) run.lent reply)
Answers s (Submit feed batch) reply = reply ≡ Done
Answers s Take reply = reply ≡ Done
Answers s (Part range) reply = reply ≡ Done
Answers s Publish reply = reply ≡ Done
Answers s Rebase reply = reply ≡ Done
Answers s (Pin reader vertex) reply = reply ≡ Done

-- the queue's first batch is held, and none of it is done
abbrev pub after_take : List Entry → Core → Core
after_take [] s = s
after_take (e ∷ es) s = record s { queue = es; held = Some (record { entry = e; done = [] }) }

abbrev pub after_publish : Option Holding → Core → Core
after_publish None s = s
after_publish (Some h) s = record s { past = longer s.past h.entry; held = None }

abbrev pub after_part : ℕ → Holding → Holding
after_part range h = record h { done = h.done ++ range ∷ [] }

abbrev pub after_lend : Reply → Run → Run
after_lend (Slice words) run = record run { lent = run.lent ++ words.items }
after_lend End run = record run { ended = true }
after_lend Done run = run
after_lend Refused run = run

-- the store after an event that happened and was answered so
abbrev pub after : Core → Event → Reply → Core
after s (Submit feed batch) reply = record s { queue = s.queue ++ (record { feed = feed; batch = batch }) ∷ [] }
after s Take reply = after_take s.queue s
after s (Part range) reply = record s { held = option_map (after_part range) s.held }
after s Publish reply = after_publish s.held s
after s Rebase reply = record s { past = rebased s.past }
after s (Pin reader vertex) reply =
    record s { runs = slice_set s.runs reader (Some (record { past = s.past; vertex = vertex; lent = []; ended = false })) }
after s (Lend reader) reply = record s { runs = slice_set s.runs reader (option_map (after_lend reply) (run_of s reader)) }

abbrev pub Happens : Core → Event → Reply → Core → Type 0
Happens s event reply t = (can s event ≡ true) × Answers s event reply × (t ≡ after s event reply)

-- from s an event leads to t, and is answered so: it is refused exactly where it cannot happen, and then
-- changes nothing
abbrev pub Steps : Core → Event → Reply → Core → Type 0
Steps s event Refused t = (can s event ≡ false) × (t ≡ s)
Steps s event Done t = Happens s event Done t
Steps s event (Slice words) t = Happens s event (Slice words) t
Steps s event End t = Happens s event End t

-- from s these events, one after another, lead to t, and are answered so
abbrev pub Ran : Core → List Event → List Reply → Core → Type 0
Ran s [] [] t = t ≡ s
Ran s (event ∷ events) (reply ∷ replies) t = (mid : Core) × Steps s event reply mid × Ran mid events replies t
Ran s [] (reply ∷ replies) t = ⊥
Ran s (event ∷ events) [] t = ⊥

-- the batches that were accepted, in order
abbrev pub accepted_by : Event → Reply → List Entry
accepted_by (Submit feed batch) Done = (record { feed = feed; batch = batch }) ∷ []
accepted_by event reply = []

abbrev pub accepted_entries : List Event → List Reply → List Entry
accepted_entries (event ∷ events) (reply ∷ replies) = accepted_by event reply ++ accepted_entries events replies
accepted_entries [] replies = []
accepted_entries (event ∷ events) [] = []
