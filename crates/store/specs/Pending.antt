-- A publication on its way, of a batch or of a rebase: before the history has it, and then until readers are shown it.
use Rattle.std.specs.Prelude.{◌≡◌, ◌<◌, List, [], ◌∷◌, Option, Some, None, Result, Ok, Err, ⊤}
use Rattle.past_model.specs.declared.entry.Entry.{Entry}
use Rattle.past_model.specs.declared.limits.TheConstants.{MOST_BATCHES, SERVED_EPOCHS, FEEDS}
use Rattle.past_model.specs.Edits.{AreEditsBelow, added, removed}
use Rattle.past_model.specs.Past.{Past, graph_of, number_of, epoch_of}
use Rattle.history.specs.Moment.{Moment, after_one}
use Rattle.history.specs.declared.published.Published.{Published}
use Rattle.history.specs.declared.published.Published.TheVariants.{Batch, Rebase}
use Rattle.store.specs.Ends.{Taking, after_pop, after_nothing, WasEmpty}
use Rattle.store.specs.Receipts.{Publication, publication_after, rebase_of}
use Rattle.store.specs.declared.pending.Change.{Change}
use Rattle.store.specs.declared.pending.Pending.{Pending}
use Rattle.store.specs.declared.pending.Stage.{Stage}
use Rattle.store.specs.declared.pending.Stage.TheVariants.{Added, Ready}
use Rattle.store.specs.declared.recorded.Owners.{Owners}

-- the last version, and the one that waits to be shown
pub record Committing : Type 0 where
  pub moment : Moment
  pub waiting : Option Moment

-- nothing waits
abbrev pub at_rest : Moment → Committing
at_rest m = record { moment = m; waiting = None }

-- the version waits
abbrev pub and_waiting : Moment → Moment → Committing
and_waiting m next = record { moment = m; waiting = Some next }

-- the batch of a change; a rebase has none
abbrev pub entry_of : Option Change → Option Entry
entry_of None = None
entry_of (Some c) = Some c.entry

-- the batch whose publication is pending
abbrev pub batch_in : Option Pending → Option Entry
batch_in None = None
batch_in (Some pending) = entry_of pending.change

-- the batch that was taken and is not published: the history does not have it, or else it is pending
abbrev pub entry_held : Option Entry → Option Pending → Option Entry
entry_held (Some e) pending = Some e
entry_held None pending = batch_in pending

-- the held batch as a list
abbrev pub entries_held : Option Entry → List Entry
entries_held None = []
entries_held (Some e) = e ∷ []

-- what the history learns of a batch, or of a rebase
abbrev pub published_of : Option Entry → Published
published_of (Some e) = Batch e
published_of None = Rebase

-- the moment that a batch or a rebase makes of one
abbrev pub moment_after : Moment → Option Entry → Moment
moment_after m e = record { past = after_one m.past (published_of e); book = m.book }

-- it may come after this version
pub record IsNext (m : Moment) (e : Entry) : Type 0 where
  pub room : number_of m.past < MOST_BATCHES
  pub feed : e.feed < FEEDS
  pub below : AreEditsBelow m.past.vertex_count e.batch

-- the batch and what it does to this version
pub record IsChange (m : Moment) (c : Change) : Type 0 where
  pub next : IsNext m c.entry
  pub gained : c.counts.added ≡ added c.entry.batch (graph_of m.past)
  pub lost : c.counts.removed ≡ removed c.entry.batch (graph_of m.past)

-- there is room for a batch, or for a rebase
abbrev pub HasRoom : Past → Option Entry → Type 0
HasRoom p (Some e) = number_of p < MOST_BATCHES
HasRoom p None = epoch_of p < SERVED_EPOCHS

-- it may follow: the change is the batch's; for a rebase there is room
abbrev pub MayFollow : Moment → Option Change → Type 0
MayFollow m (Some c) = IsChange m c
MayFollow m None = HasRoom m.past None

-- each owner is of the version of this moment
abbrev pub AreOwnersOf : Moment → Owners Moment → Type 0
AreOwnersOf m owners = (owners.shown ≡ m) × (owners.kept ≡ m) × (owners.told ≡ m)

-- each owner is of the version that is made, which waits to be shown once it was handed in
abbrev pub IsAt : Committing → Moment → Stage → Type 0
IsAt p next (Added owners) = AreOwnersOf next owners × (p ≡ at_rest p.moment)
IsAt p next (Ready kept told) = (kept ≡ next) × (told ≡ next) × (p ≡ and_waiting p.moment next)

-- the history has the publication, which may follow the last version, and it is not shown yet
abbrev pub IsPending : Committing → Pending → Type 0
IsPending p pending = MayFollow p.moment pending.change × IsAt p (moment_after p.moment (entry_of pending.change)) pending.stage

-- a publication is pending, or all is at rest
abbrev pub IsWaiting : Committing → Option Pending → Type 0
IsWaiting p None = p ≡ at_rest p.moment
IsWaiting p (Some pending) = IsPending p pending

-- a batch that the history does not have may come after the last version, and no other batch is pending
abbrev pub IsAside : Moment → Option Entry → Option Entry → Type 0
IsAside m None batch = ⊤
IsAside m (Some e) batch = IsNext m e × (batch ≡ None)

-- what a publisher has: a batch that the history does not have, or none, and what is pending
abbrev pub IsHolding : Committing → Option Entry → Option Pending → Type 0
IsHolding p held pending = IsWaiting p pending × IsAside p.moment held (batch_in pending)

-- what comes of going on with a publication: it is shown, and nothing waits; or it is pending, and the last version is the same
abbrev pub IsGoneOn : Committing → Option Change → Result Publication Pending → Committing → Type 0
IsGoneOn old change (Ok p) new = (p ≡ publication_after old.moment (entry_of change)) × (new ≡ at_rest p.moment)
IsGoneOn old change (Err pending) new = (new.moment ≡ old.moment) × (pending.change ≡ change) × IsPending new pending

-- what comes of a rebase: it is shown, and nothing waits; or the same batch is pending, or none, and the last version is the same
abbrev pub IsRebasing : Committing → Option Pending → Result Publication (Option Pending) → Committing → Type 0
IsRebasing old pending (Ok p) new = (batch_in pending ≡ None) × (p ≡ rebase_of old.moment) × (new ≡ at_rest p.moment)
IsRebasing old pending (Err again) new = (new.moment ≡ old.moment) × (batch_in again ≡ batch_in pending) × IsWaiting new again

-- the batch that comes next: the held one, or else one that is taken from the queue, where one waits
abbrev pub ComesNext : Option Entry → Taking → Option Entry → Taking → Type 0
ComesNext (Some held) r next s = (next ≡ Some held) × (s ≡ r)
ComesNext None r (Some e) s = (s ≡ after_pop r e) × (e.feed < FEEDS) × AreEditsBelow r.vertex_count e.batch
ComesNext None r None s = (s ≡ after_nothing r) × WasEmpty r
