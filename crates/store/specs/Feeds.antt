-- What becomes of a batch that a feed hands in, and which feeds end a store.
use Rattle.std.specs.Prelude.{◌≡◌, ℕ, ◌<◌, ◌≤◌, List, [], ◌++◌, length, map}
use Rattle.graph_model.specs.Graph.{numbers_below}
use Rattle.past_model.specs.declared.edit.Edit.{Edit}
use Rattle.past_model.specs.declared.entry.Entry.{Entry}
use Rattle.past_model.specs.declared.limits.TheConstants.{FEEDS, MOST_EDITS}
use Rattle.past_model.specs.Edits.{AreEditsBelow}
use Rattle.past_model.specs.Past.{of_feed}
use Rattle.past_model.specs.Epochs.{ended_batches}
use Rattle.store.specs.Ends.{Feeding, new_feeds, as_new, after_refusal, WasFull}
use Rattle.store.specs.declared.errors.SubmitCause.{SubmitCause}
use Rattle.store.specs.declared.errors.SubmitCause.TheVariants.{Full, VertexRange, TooManyEdits}
use Rattle.store.specs.Storing.{Storing}

-- there are not too many edits
abbrev pub AreFew : List Edit → Type 0
AreFew batch = length batch ≤ MOST_EDITS

-- a batch is refused: for too many edits; else for an edit that names no vertex; else where the queue held as many as
-- it may. Only the last is counted, and else the feed is as it was
abbrev pub IsRefused : Feeding → List Edit → SubmitCause → Feeding → Type 0
IsRefused s batch TooManyEdits t = (MOST_EDITS < length batch) × (t ≡ s)
IsRefused s batch VertexRange t = AreFew batch × (AreEditsBelow s.vertex_count batch → ⊥) × (t ≡ s)
IsRefused s batch Full t = AreFew batch × AreEditsBelow s.vertex_count batch × WasFull s × (t ≡ after_refusal s)

-- of each feed, these are the batches that it put, in its order; and there is nothing else
abbrev pub AreAllOf : List Entry → List Feeding → Type 0
AreAllOf all feeds =
    (map (λ (f : Feeding). f.sent) feeds ≡ map (λ k. of_feed k all) (numbers_below FEEDS)) × ((k : ℕ) → FEEDS ≤ k → of_feed k all ≡ [])

-- of each feed, these are the batches that it put, in its order, after as many as the marks of ended epochs count; and there is
-- nothing else
pub record AreDelivered (marks : List (List ℕ)) (all : List Entry) (feeds : List Feeding) : Type 0 where
  pub ended : ℕ → List Entry
  pub counted : (k : ℕ) → k < FEEDS → length (ended k) ≡ ended_batches marks k
  pub each : map (λ (f : Feeding). f.sent) feeds ≡ map (λ k. ended k ++ of_feed k all) (numbers_below FEEDS)
  pub no_other : (k : ℕ) → FEEDS ≤ k → of_feed k all ≡ []

-- the feeds of a publisher's store, from A on, whatever they have done
abbrev pub AreFeedsOf : Storing → List Feeding → Type 0
AreFeedsOf s feeds = map as_new feeds ≡ new_feeds s.moment.past.vertex_count s.queue
