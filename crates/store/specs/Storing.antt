-- The publisher, and what its steps do.
use Rattle.std.specs.Prelude.{◌≡◌, ◌<◌, ℕ, List, ◌++◌, Option, Some, None, IfSome}
use Rattle.atomic_table.specs.Seated.{TableId}
use Rattle.past_model.specs.declared.entry.Entry.{Entry}
use Rattle.past_model.specs.Edits.{AreEditsBelow}
use Rattle.past_model.specs.declared.limits.TheConstants.{FEEDS}
use Rattle.past_model.specs.Epochs.{AreSince}
use Rattle.history.specs.Moment.{Moment, opening_moment, after_rebase}
use Rattle.store.specs.Ends.{Feeding, new_feeds, one_more, taking, WasEmpty}
use Rattle.store.specs.Pending.{entries_held}
use Rattle.store.specs.Receipts.{Publication, publication, rebase_of}

-- the last version's moment, the batch that was taken and is not published, how often nothing was found, and the queue
-- from which batches are taken
pub record Storing : Type 0 where
  pub moment : Moment
  pub held : Option Entry
  pub empties : ℕ
  pub queue : TableId

-- one that has taken nothing
abbrev pub new_storing : Moment → TableId → Storing
new_storing m queue = record { moment = m; held = None; empties = 0; queue = queue }

-- what was taken, without what ended epochs had: the log, and the held batch
abbrev pub taken_of : Storing → List Entry
taken_of s = s.moment.past.log ++ entries_held s.held

-- one batch was published: the held one, if there was one. It is of a feed, and its edits name vertices
pub record IsPublished (s : Storing) (p : Publication) (t : Storing) : Type 0 where
  pub entry : Entry
  pub receipt : p ≡ publication s.moment entry
  pub after : t ≡ record s { moment = p.moment; held = None }
  pub first : IfSome s.held (λ e. entry ≡ e)
  pub feed : entry.feed < FEEDS
  pub below : AreEditsBelow s.moment.past.vertex_count entry.batch

-- a rebase was published, and a held batch still is
pub record IsRebased (s : Storing) (p : Publication) (t : Storing) : Type 0 where
  pub receipt : p ≡ rebase_of s.moment
  pub after : t ≡ record s { moment = after_rebase s.moment }

-- nothing was held, and nothing waited in the queue: all that the feeds had put was taken, and the log is what ended epochs did
-- not have of it
pub record IsIdle (s t : Storing) : Type 0 where
  pub free : s.held ≡ None
  pub after : t ≡ record s { empties = one_more s.empties }
  pub taken : List Entry
  pub since : AreSince s.moment.past.marks taken s.moment.past.log
  pub empty : WasEmpty (taking s.moment.past.vertex_count taken s.empties s.queue)

-- nothing was published. What was held still is, and what was taken is held
pub record IsKept (s t : Storing) : Type 0 where
  pub after : t ≡ record s { held = t.held }
  pub first : IfSome s.held (λ e. t.held ≡ Some e)

-- the ends of a new store: all of one queue and one history
pub record IsOpened (n : ℕ) (publisher : Storing) (feeds : List Feeding) (reader : Moment) : Type 0 where
  pub seen : reader ≡ opening_moment n reader.book
  pub published : publisher ≡ new_storing reader publisher.queue
  pub submitted : feeds ≡ new_feeds n publisher.queue
