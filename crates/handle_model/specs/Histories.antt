-- Calls of all threads, one after another.
use Rattle.std.specs.Prelude.{◌≡◌, ℕ, ◌<◌, List, [], ◌∷◌, ◌++◌, length, Option, Some, None, ◌⊎◌}
use Rattle.past_model.specs.declared.entry.Entry.{Entry}
use Rattle.past_model.specs.Edits.{AreEditsBelow}
use Rattle.past_model.specs.Past.{Past, opening, longer}
use Rattle.past_model.specs.Epochs.{rebased}
use Rattle.past_model.specs.declared.limits.TheConstants.{FEEDS}
use Rattle.store_model.specs.declared.limits.TheConstants.{QUEUE_PLACES}
use Rattle.store_model.specs.declared.event.Event.{Event}
use Rattle.store_model.specs.declared.reply.Reply.{Reply}
use Rattle.store_model.specs.Core.{Core, opening_core}
use Rattle.store_model.specs.Events.{Ran}
use Rattle.handle_model.specs.Sights.{PublisherSees}
use Rattle.handle_model.specs.Calls.{waiting_after}

-- what the publisher and the feeds know together: what is published, what is held, and what waits in the queue
pub record Standing : Type 0 where
  pub past : Past
  pub held : Option Entry
  pub waiting : List Entry

abbrev pub opening_standing : ℕ → Standing
opening_standing n = record { past = opening n; held = None; waiting = [] }

-- a batch was submitted: its feed is one that there is, its edits name vertices, the queue had room, and it came last
pub record IsSubmitted (x y : Standing) : Type 0 where
  pub entry : Entry
  pub feed : entry.feed < FEEDS
  pub below : AreEditsBelow x.past.vertex_count entry.batch
  pub room : length x.waiting < QUEUE_PLACES
  pub now : y ≡ record x { waiting = x.waiting ++ entry ∷ [] }

-- the batch is the one that is held, or else the first that waits
abbrev pub IsFirst : Option Entry → List Entry → Entry → Type 0
IsFirst None waiting e = (rest : List Entry) × (waiting ≡ e ∷ rest)
IsFirst (Some held) waiting e = held ≡ e

-- a batch was published: the next one
pub record IsPublished (x y : Standing) : Type 0 where
  pub entry : Entry
  pub next : IsFirst x.held x.waiting entry
  pub now : y ≡ record { past = longer x.past entry; held = None; waiting = waiting_after x.waiting x.held }

-- a batch was taken, and is held
pub record IsTaken (x y : Standing) : Type 0 where
  pub entry : Entry
  pub free : x.held ≡ None
  pub next : IsFirst None x.waiting entry
  pub now : y ≡ record { past = x.past; held = Some entry; waiting = waiting_after x.waiting None }

-- a rebase was published
pub record IsRebased (x y : Standing) : Type 0 where
  pub now : y ≡ record x { past = rebased x.past }

-- each standing comes of the one before by a call of a feed or of the publisher
abbrev pub AreCalls : Standing → List Standing → Type 0
AreCalls x [] = Unit {0}
AreCalls x (y ∷ ys) = (IsSubmitted x y ⊎ (IsPublished x y ⊎ (IsTaken x y ⊎ IsRebased x y))) × AreCalls y ys

abbrev pub last_of : Standing → List Standing → Standing
last_of x [] = x
last_of x (y ∷ ys) = last_of y ys

-- the publisher sees the store, its queue is as it is, and so each feed sees what came by it
pub record AllSee (s : Core) (x : Standing) : Type 0 where
  pub publisher : PublisherSees s x.past x.held
  pub queue : s.queue ≡ x.waiting

-- whatever calls came one after another, there are events that lead a store from what was seen first to what is seen
-- last: so all laws of events are laws of calls
abbrev pub HistoriesAreRuns : Type 0
HistoriesAreRuns =
    (s : Core) (x : Standing) (ys : List Standing) → AllSee s x → AreCalls x ys
    → (t : Core) × (events : List Event) × (replies : List Reply) × Ran s events replies t × AllSee t (last_of x ys)

-- all see a store in which nothing has happened
abbrev pub AllSeeOpening : Type 0
AllSeeOpening = (n : ℕ) → AllSee (opening_core n) (opening_standing n)
