-- All that the store has: what is published, what waits, what is in work, and the readers' runs.
use Rattle.std.specs.Prelude.{◌==◌, ℕ, ◌/◌, Bool, not, ◌&&◌, List, [], ◌∷◌, ◌++◌, replicate, slice_index_or, Option, Some, None}
use Rattle.std.specs.List.{list_any, list_all}
use Rattle.past_model.specs.declared.limits.TheConstants.{RANGE_VERTICES}
use Rattle.past_model.specs.declared.edit.Edit.{Edit}
use Rattle.past_model.specs.declared.entry.Entry.{Entry}
use Rattle.graph_model.specs.Graph.{neighbours}
use Rattle.past_model.specs.Edits.{source_of}
use Rattle.past_model.specs.Past.{Past, graph_of, opening}
use Rattle.store_model.specs.declared.limits.TheConstants.{READERS}

-- the range that an edit is of
abbrev pub range_of : Edit → ℕ
range_of e = source_of e / RANGE_VERTICES

-- a batch that was taken from the queue, and its ranges that are done
pub record Holding : Type 0 where
  pub entry : Entry
  pub done : List ℕ

abbrev pub is_done : List ℕ → ℕ → Bool
is_done done range = list_any (λ r. r == range) done

-- a range is still to be done: some edit is of it
abbrev pub is_open : Holding → ℕ → Bool
is_open h range = list_any (λ e. range_of e == range) h.entry.batch && not (is_done h.done range)

-- the range of each edit is done
abbrev pub is_whole : Holding → Bool
is_whole h = list_all (λ e. is_done h.done (range_of e)) h.entry.batch

-- what a reader does with a pin: the version and the vertex, the words lent so far, and whether a lend
-- answered the end
pub record Run : Type 0 where
  pub past : Past
  pub vertex : ℕ
  pub lent : List ℕ
  pub ended : Bool

-- what there is to lend
abbrev pub words_of : Run → List ℕ
words_of run = neighbours (graph_of run.past) run.vertex

pub record Core : Type 0 where
  pub past : Past
  pub queue : List Entry
  pub held : Option Holding
  pub runs : List (Option Run)

-- nothing has happened yet
abbrev pub opening_core : ℕ → Core
opening_core n = record { past = opening n; queue = []; held = None; runs = replicate READERS None }

abbrev pub run_of : Core → ℕ → Option Run
run_of s reader = slice_index_or s.runs reader None

abbrev pub held_entries : Option Holding → List Entry
held_entries None = []
held_entries (Some h) = h.entry ∷ []

-- the batches that the store has, in the order in which they came
abbrev pub entries : Core → List Entry
entries s = s.past.log ++ (held_entries s.held ++ s.queue)
