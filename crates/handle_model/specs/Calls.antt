-- Which events the calls of handles are. Each definition is about every store that the handle may be seeing: these events can
-- happen there, and after them the handle sees what the call says.
use Rattle.std.specs.Prelude.{◌≡◌, ◌==◌, ℕ, ◌<◌, Bool, true, false, not, ◌&&◌, List, [], ◌∷◌, ◌++◌, length, drop, map, slice_set, Option, Some, None, Vec}
use Rattle.std.specs.declared.alloc.Global.{Global}
use Rattle.std.specs.List.{list_any, insert}
use Rattle.past_model.specs.declared.edit.Edit.{Edit}
use Rattle.past_model.specs.declared.entry.Entry.{Entry}
use Rattle.past_model.specs.Past.{Past}
use Rattle.past_model.specs.Epochs.{IsBeforeInEpoch}
use Rattle.store_model.specs.declared.limits.TheConstants.{READERS, QUEUE_PLACES}
use Rattle.store_model.specs.declared.event.Event.{Event}
use Rattle.store_model.specs.declared.event.Event.TheVariants.{Submit, Take, Part, Publish, Rebase, Pin, Lend}
use Rattle.store_model.specs.declared.reply.Reply.{Reply}
use Rattle.store_model.specs.declared.reply.Reply.TheVariants.{Done, Slice, End}
use Rattle.store_model.specs.Core.{Core, Run, is_done, range_of}
use Rattle.store_model.specs.Events.{Steps, Ran}
use Rattle.handle_model.specs.Sights.{FeedSees, PublisherSees, CursorSees}

-- the batch was submitted, where the queue had room for it
abbrev pub IsSubmission : ℕ → ℕ → List Edit → List Entry → List Entry → Type 0
IsSubmission n feed batch sent later =
    (s : Core) → FeedSees s n feed sent → length s.queue < QUEUE_PLACES
    → (t : Core) × Steps s (Submit feed batch) Done t × FeedSees t n feed later

-- the batch that comes next: the one that is held, or else the first that waits
abbrev pub IsNext : Core → Option Entry → Entry → Type 0
IsNext s None e = (rest : List Entry) × (s.queue ≡ e ∷ rest)
IsNext s (Some held) e = held ≡ e

-- the batches that wait once the next one has left the queue
abbrev pub waiting_after : List Entry → Option Entry → List Entry
waiting_after queue None = drop 1 queue
waiting_after queue (Some held) = queue

-- no number stands twice
abbrev pub are_distinct : List ℕ → Bool
are_distinct [] = true
are_distinct (r ∷ ranges) = not (is_done ranges r) && are_distinct ranges

-- the ranges of a batch's edits, each once, in any order
pub record AreRangesOf (batch : List Edit) (ranges : List ℕ) : Type 0 where
  pub distinct : are_distinct ranges ≡ true
  pub edited : (r : ℕ) → is_done ranges r ≡ list_any (λ e. range_of e == r) batch

-- the next batch is taken, unless it is held
abbrev pub take_unless_held : Option Entry → List Event
take_unless_held None = Take ∷ []
take_unless_held (Some held) = []

-- and then its ranges are edited, and it is published
abbrev pub publication : Option Entry → List ℕ → List Event
publication held ranges = take_unless_held held ++ (map Part ranges ++ Publish ∷ [])

-- each of them is done
abbrev pub all_done : List Event → List Reply
all_done events = map (λ (_ : Event). Done) events

-- the next batch was published, whatever the order in which its ranges are edited
abbrev pub IsPublication : Past → Option Entry → Entry → Past → Type 0
IsPublication past held e later =
    (s : Core) (ranges : List ℕ) → PublisherSees s past held → IsNext s held e → AreRangesOf e.batch ranges
    → (t : Core) × Ran s (publication held ranges) (all_done (publication held ranges)) t × PublisherSees t later None
    × (t.queue ≡ waiting_after s.queue held)

-- the store was rebased, and what was held still is
abbrev pub IsRebase : Past → Option Entry → Past → Type 0
IsRebase past held later =
    (s : Core) → PublisherSees s past held
    → (t : Core) × Steps s Rebase Done t × PublisherSees t later held × (t.queue ≡ s.queue)

-- the next batch was taken, unless it was held before, and it is held; nothing was published
abbrev pub IsTaking : Past → Option Entry → Entry → Past → Type 0
IsTaking past held e later =
    (s : Core) → PublisherSees s past held → IsNext s held e
    → (t : Core) × Ran s (take_unless_held held) (all_done (take_unless_held held)) t × PublisherSees t later (Some e)
    × (t.queue ≡ waiting_after s.queue held)

abbrev pub is_of_reader : ℕ → Event → Bool
is_of_reader reader (Pin other vertex) = other == reader
is_of_reader reader (Lend other) = other == reader
is_of_reader reader (Submit feed batch) = false
is_of_reader reader Take = false
is_of_reader reader (Part range) = false
is_of_reader reader Publish = false
is_of_reader reader Rebase = false

-- a run that was lent nothing yet
abbrev pub new_run : Past → ℕ → Run
new_run past vertex = record { past = past; vertex = vertex; lent = []; ended = false }

-- the store, with this as the reader's run
abbrev pub with_run : Core → ℕ → Run → Core
with_run s reader run = record s { runs = slice_set s.runs reader (Some run) }

-- A reader saw one version last, and then pinned another. Others do whatever they like in a store whose last version
-- was the first of the two, until its log is one of the second's epoch and begins with that of the second. Then the pin has
-- its place among their events, and all but the reader's run is as without it.
abbrev pub IsPin : Past → Past → Type 0
IsPin seen pinned =
    (s t : Core) (events : List Event) (replies : List Reply) (reader vertex : ℕ) → s.past ≡ seen → Ran s events replies t
    → list_any (is_of_reader reader) events ≡ false → IsBeforeInEpoch pinned t.past → reader < READERS → vertex < seen.vertex_count
    → (place : ℕ) × Ran s (insert events place (Pin reader vertex)) (insert replies place Done) (with_run t reader (new_run pinned vertex))

-- a cursor lent a slice, or reported the end
abbrev pub IsLend : Past → ℕ → List ℕ → Option (List ℕ) → List ℕ → Type 0
IsLend past vertex left (Some slice) rest =
    (s : Core) (reader : ℕ) (words : Vec ℕ Global) → CursorSees s reader past vertex left → words.items ≡ slice
    → (t : Core) × Steps s (Lend reader) (Slice words) t × CursorSees t reader past vertex rest
IsLend past vertex left None rest =
    (s : Core) (reader : ℕ) → CursorSees s reader past vertex left
    → (t : Core) × Steps s (Lend reader) End t × CursorSees t reader past vertex rest
