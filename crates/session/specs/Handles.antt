-- All ends of one store in one thread, and what comes of a batch that is handed in there.
use Rattle.std.specs.Prelude.{◌≡◌, ◌≤◌, ◌⊎◌, ℕ, List, Option, Some, None, Result, Ok, Err}
use Rattle.past_model.specs.declared.entry.Entry.{Entry}
use Rattle.past_model.specs.declared.limits.TheConstants.{SERVED_VERTICES}
use Rattle.past_model.specs.Edits.{added, removed}
use Rattle.past_model.specs.Past.{Past, opening, graph_of, number_of, epoch_of, longer}
use Rattle.history.specs.Moment.{Moment, Begins}
use Rattle.store.specs.Ends.{Feeding}
use Rattle.store.specs.Feeds.{AreFeedsOf}
use Rattle.store.specs.Receipts.{Publication}
use Rattle.store.specs.Storing.{Storing}
use Rattle.session.specs.declared.error.CommandError.{CommandError}
use Rattle.session.specs.declared.error.CommandError.TheVariants as errors

-- the feeds and the reader are of the publisher's store, and the reader has seen all that was published
pub record AreHandles (n number epoch : ℕ) (publisher : Storing) (feeds : List Feeding) (reader : Moment) : Type 0 where
  pub feeds_are : AreFeedsOf publisher feeds
  pub seen : Begins publisher.moment reader
  pub count : n ≡ publisher.moment.past.vertex_count
  pub few : n ≤ SERVED_VERTICES
  pub number_is : number ≡ number_of publisher.moment.past
  pub epoch_is : epoch ≡ epoch_of publisher.moment.past

-- the last version of a store, and the batch that it took and could not publish
pub record StoreState : Type 0 where
  pub past : Past
  pub held : Option Entry

abbrev pub new_store : ℕ → StoreState
new_store n = record { past = opening n; held = None }

-- the publication of this batch, and of no other
pub record IsOf (old : StoreState) (e : Entry) (p : Publication) (new : StoreState) : Type 0 where
  pub made : new ≡ record { past = longer old.past e; held = None }
  pub past : p.moment.past ≡ new.past
  pub gained : p.added ≡ added e.batch (graph_of old.past)
  pub lost : p.removed ≡ removed e.batch (graph_of old.past)

-- nothing is published: all is as it was, but that a batch may be held where none was
abbrev pub IsUnpublished : (old new : StoreState) → Type 0
IsUnpublished old new = (new ≡ old) ⊎ ((old.held ≡ None) × ((e : Entry) × (new ≡ record old { held = Some e })))

-- the batch is published; or there is no memory or no worker, and nothing is. Where the store does not answer as it should, it
-- holds no batch: so none is held for lack of memory or of a worker
abbrev pub Publishes : StoreState → Entry → Result Publication CommandError → StoreState → Type 0
Publishes old e (Ok p) new = IsOf old e p new
Publishes old e (Err errors.OutOfMemory) new = IsUnpublished old new
Publishes old e (Err errors.WorkerRefused) new = IsUnpublished old new
Publishes old e (Err errors.Store) new = new.held ≡ None
Publishes old e (Err (errors.Fault fault)) new = ⊥
