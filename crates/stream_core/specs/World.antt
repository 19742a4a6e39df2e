-- What a world is seen as, and kept to be.
use Rattle.std.specs.Prelude.{◌≡◌, ◌≤◌, ℕ, List, length, map, slice_index_or, Option, Some, None, option_map, MatchOption}
use Rattle.std.specs.List.{AllByRecursion}
use Rattle.past_model.specs.declared.limits.TheConstants.{MOST_VERTICES}
use Rattle.past_model.specs.declared.entry.Entry.{Entry}
use Rattle.past_model.specs.Edits.{AreEditsBelow}
use Rattle.past_model.specs.Past.{Past, IsPast, graph_of}
use Rattle.shards.specs.Part.{Part}
use Rattle.shard_table.specs.Table.{IsTable}
use Rattle.store_model.specs.declared.limits.TheConstants.{READERS}
use Rattle.store_model.specs.Core.{Core}
use Rattle.stream_core.specs.declared.reader_run.ReaderRun.{ReaderRun}
use Rattle.stream_core.specs.Tables.{IsTableInWork}
use Rattle.stream_core.specs.Work.{Work, holding_of}
use Rattle.stream_core.specs.Runs.{run_in, IsRunIn}

abbrev pub core_of : Past → List Entry → Option Work → List (Option ReaderRun) → Core
core_of past queue held runs = record {
  past = past;
  queue = queue;
  held = option_map holding_of held;
  runs = map (option_map (run_in past.vertex_count)) runs;
}

-- the batch's edits name vertices, and its parts are those of the last version, as far as they are edited
pub record IsWorkIn (past : Past) (w : Work) : Type 0 where
  pub below : AreEditsBelow past.vertex_count w.entry.batch
  pub table : IsTableInWork (graph_of past) w.entry.batch w.done w.parts

pub record IsWorld (past : Past) (queue : List Entry) (held : Option Work) (parts : List Part) (runs : List (Option ReaderRun)) : Type 0 where
  pub some : 1 ≤ past.vertex_count
  pub most : past.vertex_count ≤ MOST_VERTICES
  pub past_is : IsPast past
  pub published : IsTable (graph_of past) parts
  pub waiting : AllByRecursion (λ (e : Entry). AreEditsBelow past.vertex_count e.batch) queue
  pub work : MatchOption held (Unit {0}) (IsWorkIn past)
  pub places : length runs ≡ READERS
  pub each : (reader : ℕ) (run : ReaderRun) → slice_index_or runs reader None ≡ Some run → IsRunIn past.vertex_count run
