-- Laws of all lists of events. Each is the contract of a public function.
use Rattle.std.specs.Prelude.{◌≡◌, ℕ, ◌<◌, true, List, [], ◌∷◌, ◌++◌, length, Some, Vec}
use Rattle.std.specs.declared.alloc.Global.{Global}
use Rattle.past_model.specs.declared.edit.Edit.TheVariants.{Insert, Remove}
use Rattle.past_model.specs.declared.entry.Entry.{Entry}
use Rattle.past_model.specs.declared.limits.TheConstants.{FEEDS}
use Rattle.past_model.specs.Past.{IsPast, of_feed}
use Rattle.past_model.specs.Epochs.{ended_batches, IsBefore, AreSince}
use Rattle.store_model.specs.declared.event.Event.{Event}
use Rattle.store_model.specs.declared.event.Event.TheVariants.{Submit, Take, Part, Publish, Rebase, Pin, Lend}
use Rattle.store_model.specs.declared.reply.Reply.{Reply}
use Rattle.store_model.specs.declared.reply.Reply.TheVariants.{Done, Slice, End}
use Rattle.store_model.specs.Core.{Core, Run, opening_core, run_of, words_of, held_entries, entries}
use Rattle.store_model.specs.Events.{IsBeginning, Steps, Ran, accepted_entries}

-- what was lent is a beginning of the words, and all of them once a lend answered the end
abbrev pub IsRight : Run → Type 0
IsRight run = IsBeginning run.lent (words_of run) × (run.ended ≡ true → run.lent ≡ words_of run)

abbrev pub EveryRunIsRight : Type 0
EveryRunIsRight =
    (n reader : ℕ) (events : List Event) (replies : List Reply) (s : Core) (run : Run)
    → Ran (opening_core n) events replies s → run_of s reader ≡ Some run → IsRight run

-- the log, the held batch and the queue are the accepted batches without those of ended epochs, which came before them: of all
-- feeds, and of each without as many as the marks count
pub record AreAccepted (s : Core) (accepted : List Entry) : Type 0 where
  pub all : AreSince s.past.marks accepted (entries s)
  pub each : (feed : ℕ) → feed < FEEDS → (ended : List Entry) × (length ended ≡ ended_batches s.past.marks feed)
      × (ended ++ (of_feed feed s.past.log ++ (of_feed feed (held_entries s.held) ++ of_feed feed s.queue)) ≡ of_feed feed accepted)

abbrev pub NothingLost : Type 0
NothingLost =
    (n : ℕ) (events : List Event) (replies : List Reply) (s : Core) → Ran (opening_core n) events replies s
    → AreAccepted s (accepted_entries events replies)

abbrev pub LogIsPast : Type 0
LogIsPast = (n : ℕ) (events : List Event) (replies : List Reply) (s : Core) → Ran (opening_core n) events replies s → IsPast s.past

abbrev pub RunsGoOn : Type 0
RunsGoOn =
    (s t u : Core) (events : List Event) (replies : List Reply) (event : Event) (reply : Reply)
    → Ran s events replies t → Steps t event reply u → Ran s (events ++ event ∷ []) (replies ++ reply ∷ []) u

-- a run's version is the last one, or was published before it
abbrev pub IsOfVersion : Core → Run → Type 0
IsOfVersion s run = IsBefore run.past s.past

abbrev pub RunsAreOfVersions : Type 0
RunsAreOfVersions =
    (n reader : ℕ) (events : List Event) (replies : List Reply) (s : Core) (run : Run)
    → Ran (opening_core n) events replies s → run_of s reader ≡ Some run → IsOfVersion s run

-- a worked row: a reader pins before a batch is published, and again after it, a rebase and a batch more
abbrev pub row_events : List Event
row_events =
    Submit 0 (Insert 0 1 ∷ []) ∷ Take ∷ Pin 0 0 ∷ Part 0 ∷ Publish ∷ Rebase ∷ Submit 3 (Insert 0 2 ∷ Remove 0 1 ∷ []) ∷ Take ∷ Part 0 ∷ Publish ∷ Lend 0 ∷ Pin 0 0 ∷ Lend 0 ∷ Lend 0 ∷ []

abbrev pub row_replies : Vec ℕ Global → List Reply
row_replies words =
    Done ∷ Done ∷ Done ∷ Done ∷ Done ∷ Done ∷ Done ∷ Done ∷ Done ∷ Done ∷ End ∷ Done ∷ Slice words ∷ End ∷ []

abbrev pub RowRuns : Type 0
RowRuns = (words : Vec ℕ Global) → words.items ≡ 2 ∷ [] → (s : Core) × Ran (opening_core 4) row_events (row_replies words) s
