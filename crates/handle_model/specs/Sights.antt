-- What each handle of a store sees of it.
use Rattle.std.specs.Prelude.{◌≡◌, ℕ, List, [], ◌++◌, length, Option, Some, option_map}
use Rattle.past_model.specs.declared.entry.Entry.{Entry}
use Rattle.past_model.specs.Past.{Past, of_feed}
use Rattle.past_model.specs.Epochs.{ended_batches}
use Rattle.store_model.specs.Core.{Core, Holding, Run, run_of, words_of, entries}

-- a feed sees how many vertices there are, and all that came by it, in order: as many batches as the marks of ended epochs count,
-- and then those that the store has
pub record FeedSees (s : Core) (n feed : ℕ) (sent : List Entry) : Type 0 where
  pub count : s.past.vertex_count ≡ n
  pub ended : List Entry
  pub counted : length ended ≡ ended_batches s.past.marks feed
  pub all_sent : ended ++ of_feed feed (entries s) ≡ sent

-- a batch that was taken, and of which no range is done
abbrev pub new_holding : Entry → Holding
new_holding e = record { entry = e; done = [] }

-- the publisher sees what is published, and the batch that it holds
pub record PublisherSees (s : Core) (past : Past) (held : Option Entry) : Type 0 where
  pub published : s.past ≡ past
  pub holds : s.held ≡ option_map new_holding held

-- a cursor of a pin sees one reader's run: its version, its vertex, and what is left to be lent
pub record CursorSees (s : Core) (reader : ℕ) (past : Past) (vertex : ℕ) (left : List ℕ) : Type 0 where
  pub run : Run
  pub has : run_of s reader ≡ Some run
  pub pinned : run.past ≡ past
  pub here : run.vertex ≡ vertex
  pub words : run.lent ++ left ≡ words_of run
