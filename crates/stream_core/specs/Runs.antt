-- The past that a token of the history knows, and a reader's run, by its token.
use Rattle.std.specs.Prelude.{◌≡◌, ◌≤◌, ℕ, List, length, take}
use Rattle.past_model.specs.declared.limits.TheConstants.{MOST_VERTICES}
use Rattle.graph_model.specs.Graph.{neighbours}
use Rattle.past_model.specs.Past.{Past, graph_of}
use Rattle.history.specs.Moment.{Beginning, moment_of}
use Rattle.shard_table.specs.Table.{IsTable}
use Rattle.store_model.specs.declared.reply.Reply.{Reply}
use Rattle.store_model.specs.Core.{Run}
use Rattle.store_model.specs.Events.{Lends, after_lend}
use Rattle.stream_core.specs.declared.reader_run.ReaderRun.{ReaderRun}

-- the past of so many vertices to which some publications led; no publication changes how many vertices there are
abbrev pub past_at : ℕ → Beginning → Past
past_at n k = record (moment_of n k).past { vertex_count = n }

-- the version of a run, in a world of so many vertices
abbrev pub version_of : ℕ → ReaderRun → Past
version_of n r = past_at n r.known

-- the words that a run has to be lent
abbrev pub words_in : ℕ → ReaderRun → List ℕ
words_in n r = neighbours (graph_of (version_of n r)) r.vertex

abbrev pub run_in : ℕ → ReaderRun → Run
run_in n r = record {
  past = version_of n r;
  vertex = r.vertex;
  lent = take r.place (words_in n r);
  ended = r.ended;
}

-- its table is that of its version's graph, and the place is in its words
pub record IsRunIn (n : ℕ) (r : ReaderRun) : Type 0 where
  pub table : IsTable (graph_of (version_of n r)) r.table
  pub within : r.place ≤ length (words_in n r)

pub record IsLendable (r : ReaderRun) : Type 0 where
  pub vertices : ℕ
  pub small : vertices ≤ MOST_VERTICES
  pub is : IsRunIn vertices r

-- a lend that was answered so, in a world of however many vertices
pub record IsLent (n : ℕ) (r : ReaderRun) (reply : Reply) (next : ReaderRun) : Type 0 where
  pub answer : IsRunIn n r → Lends (words_in n r) (take r.place (words_in n r)) reply
  pub still : IsRunIn n r → IsRunIn n next
  pub run : IsRunIn n r → run_in n next ≡ after_lend reply (run_in n r)
