-- A batch in work.
use Rattle.std.specs.Prelude.{◌≡◌, ◌≤◌, ℕ, true, if◌then◌else◌, List, [], ◌∷◌, ◌++◌, Vec, map, slice_index_or}
use Rattle.std.specs.declared.alloc.Global.{Global}
use Rattle.past_model.specs.declared.limits.TheConstants.{MOST_VERTICES}
use Rattle.past_model.specs.declared.edit.Edit.{Edit}
use Rattle.past_model.specs.declared.entry.Entry.{Entry}
use Rattle.graph_model.specs.Graph.{Graph}
use Rattle.past_model.specs.Edits.{AreEditsBelow}
use Rattle.shards.specs.Part.{Part}
use Rattle.store_model.specs.Core.{Holding, is_open, is_done}
use Rattle.stream_core.specs.Tables.{own_edits, IsTableInWork}

-- the batch, its ranges that are done, and the parts as far as they are edited
pub record Work : Type 0 where
  pub entry : Entry
  pub done : List ℕ
  pub parts : List Part

abbrev pub holding_of : Work → Holding
holding_of w = record { entry = w.entry; done = w.done }

-- the lists that vectors keep
abbrev pub lists_of : List (Vec Edit Global) → List (List Edit)
lists_of vectors = map (λ v. v.items) vectors

-- the edits that are left to do, by range: all that are of the range, and none once it is done
pub record AreLeft (es : List Edit) (done : List ℕ) (left : List (List Edit)) : Type 0 where
  pub each : (range : ℕ) → slice_index_or left range [] ≡ (if is_done done range then [] else own_edits es range)

-- the parts are those of a graph, whose vertices the edits name, and the range is still to be done
pub record IsEditable (range : ℕ) (w : Work) : Type 0 where
  pub graph : Graph
  pub small : graph.vertex_count ≤ MOST_VERTICES
  pub below : AreEditsBelow graph.vertex_count w.entry.batch
  pub table : IsTableInWork graph w.entry.batch w.done w.parts
  pub still_open : is_open (holding_of w) range ≡ true

-- the range is done, whichever graph the parts were of
pub record IsWorkAfter (range : ℕ) (w next : Work) : Type 0 where
  pub entry : next.entry ≡ w.entry
  pub done : next.done ≡ w.done ++ range ∷ []
  pub table : (g : Graph) → AreEditsBelow g.vertex_count w.entry.batch → IsTableInWork g w.entry.batch w.done w.parts
      → IsTableInWork g w.entry.batch next.done next.parts
