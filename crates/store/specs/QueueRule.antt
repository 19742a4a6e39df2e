-- The rule of the queue: of each feed, what was taken and what the queue holds are what it put, in order; and the edits
-- that wait name vertices.
use Rattle.std.specs.Prelude.{◌≡◌, ◌⊎◌, ℕ, ◌<◌, ◌≤◌, true, false, List, [], ◌∷◌, ◌++◌, map, length, slice_index_or, Option, Some, None}
use Rattle.std.specs.List.{AllByRecursion}
use mathlib.Core.Option.{some}
use lib.ListN.{get_elem?}
use Rattle.past_model.specs.declared.entry.Entry.{Entry}
use Rattle.past_model.specs.Edits.{AreEditsBelow}
use Rattle.store_model.specs.declared.limits.TheConstants.{QUEUE_PLACES}
use Rattle.past_model.specs.Past.{of_feed}
use Rattle.store.specs.declared.queue.queue_view.QueueView.{QueueView}
use Rattle.store.specs.declared.queue.message.Message.{Message}
use Rattle.store.specs.QueueViews.{newcomer, opener, taker, feeder}

-- the entries of parcels
abbrev pub entries_of : List Message → List Entry
entries_of items = map (λ (x : Message). x.entry) items

-- how many vertices the edits are about, the pass that takes, the pass of each feed that has one, what each feed put,
-- and what was taken
pub record Facts : Type 0 where
  pub vertex_count : ℕ
  pub taker : ℕ
  pub seat : ℕ → Option ℕ
  pub sent : ℕ → List Entry
  pub taken : List Entry

-- a feed's pass knows what the feed put
pub record FitsFeed (f : Facts) (pass : ℕ) (v : QueueView) : Type 0 where
  pub count : v.vertex_count ≡ f.vertex_count
  pub seated : f.seat v.feed ≡ Some pass
  pub sent : v.sent ≡ f.sent v.feed

-- the pass that takes knows what was taken, that feeds which it did not make put nothing, and what the ended feeds put
pub record FitsTaker (f : Facts) (pass : ℕ) (v : QueueView) : Type 0 where
  pub count : v.vertex_count ≡ f.vertex_count
  pub seated : pass ≡ f.taker
  pub taken : v.taken ≡ f.taken
  pub unmade : (p : ℕ) → v.made ≤ p → (f.seat p ≡ None) × (f.sent p ≡ [])
  pub ended : (k : ℕ) → k < length v.ended → (f.seat k ≡ None) × (f.sent k ≡ slice_index_or v.ended k [])
  pub fewer : length v.ended ≤ v.made

pub record Fits (f : Facts) (pass : ℕ) (v : QueueView) : Type 0 where
  pub begun : (v.opens ≡ false) × (v.waits ≡ false)
  pub feed : v.feeds ≡ true → FitsFeed f pass v
  pub taker : v.takes ≡ true → FitsTaker f pass v

pub record Delivers (items : List Message) (views : List QueueView) : Type 0 where
  pub facts : Facts
  pub delivered : (feed : ℕ) → of_feed feed (facts.taken ++ entries_of items) ≡ facts.sent feed
  pub below : AllByRecursion (λ (x : Message). AreEditsBelow facts.vertex_count x.entry.batch) items
  pub bounded : length items ≤ QUEUE_PLACES
  pub fits : (pass : ℕ) (v : QueueView) → get_elem? views pass ≡ some v → Fits facts pass v

-- at first there is one pass, which puts in a message with the number of vertices, and takes it out again. From then
-- on the rule is `Delivers`
abbrev pub Begins : List Message → List QueueView → Type 0
Begins items views = (items ≡ []) × (views ≡ newcomer ∷ [])

abbrev pub Opens : List Message → List QueueView → Type 0
Opens items views = (first : Message) × (items ≡ first ∷ []) × (views ≡ opener first.vertex_count ∷ [])

abbrev pub Keeps : List Message → List QueueView → Type 0
Keeps items views = (Begins items views ⊎ Opens items views) ⊎ Delivers items views

-- what a feed knows of what the queue holds
pub record Waits (v : QueueView) (items : List Message) : Type 0 where
  pub taken : List Entry
  pub all : of_feed v.feed (taken ++ entries_of items) ≡ v.sent

-- what the pass that takes knows of what the queue holds
pub record Left (v : QueueView) (items : List Entry) : Type 0 where
  pub ended : (k : ℕ) → k < length v.ended → of_feed k (v.taken ++ items) ≡ slice_index_or v.ended k []
  pub unmade : (p : ℕ) → v.made ≤ p → of_feed p (v.taken ++ items) ≡ []
  pub bounded : length items ≤ QUEUE_PLACES

-- a feed puts an entry of its own
abbrev pub Puts : QueueView → Message → QueueView → Type 0
Puts v x w = w ≡ feeder v.vertex_count v.feed (v.sent ++ x.entry ∷ [])

-- an entry is taken, whose edits name vertices
abbrev pub Takes : QueueView → Message → QueueView → Type 0
Takes v x w =
    (w ≡ taker v.vertex_count (v.taken ++ x.entry ∷ []) v.made v.ended) × AreEditsBelow v.vertex_count x.entry.batch
    × ((rest : List Entry) × Left w rest)
