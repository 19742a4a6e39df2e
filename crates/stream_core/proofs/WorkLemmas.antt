-- A batch in work, by its ranges.
use Rattle.std.proofs.Common.{◌≡◌, ℕ, ◌<◌, ◌==◌, Bool, true, false, not, if◌then◌else◌, List, [], ◌∷◌, ◌++◌, Vec, length, get_or, set, refl, sym, subst, ◌∙◌}
use Rattle.std.specs.List.{list_any}
use Rattle.std.specs.declared.alloc.Global.{Global}
use Rattle.std.proofs.lemmas.Bool.{and_parts}
use Rattle.past_model.specs.declared.edit.Edit.{Edit}
use Rattle.graph_model.specs.Graph.{Graph}
use Rattle.past_model.specs.Edits.{after_batch}
use Rattle.shards.specs.Part.{Part, AreEditsOf, IsPartAfter}
use Rattle.shard_table.specs.Table.{IsPartAt, part_at}
use Rattle.store_model.specs.Core.{range_of, is_done, is_open}
use Rattle.stream_core.specs.Tables.{own_edits, IsTableInWork}
use Rattle.stream_core.specs.Work.{Work, AreLeft, IsEditable, IsWorkAfter, holding_of, lists_of}
use Rattle.shard_table.proofs.RangeLemmas.{range_own}
use Rattle.stream_core.proofs.LeftLemmas.{open_inside, read_left, left_own}
use Rattle.stream_core.proofs.TableLemmas.{range_within, table_applied}

not_true : (b : Bool) → not b ≡ true → b ≡ false
not_true false e = refl
not_true true e = sym e

pub open_parts : (w : Work) (range : ℕ) → is_open (holding_of w) range ≡ true → (list_any (λ e. range_of e == range) w.entry.batch ≡ true) × (is_done w.done range ≡ false)
open_parts w range able =
    let parts = and_parts (list_any (λ e. range_of e == range) w.entry.batch) (not (is_done w.done range)) able in
    (parts.0, not_true (is_done w.done range) parts.1)

-- the table has an open range
pub range_inside : (w : Work) (range : ℕ) → IsEditable range w → range < length w.parts
range_inside w range is =
    (is.table.ranges range).1 (range_within is.graph.vertex_count range w.entry.batch is.below (open_parts w range is.still_open).0)

-- its part is still that of the graph before the batch
pub part_before : (g : Graph) (w : Work) (range : ℕ) → IsTableInWork g w.entry.batch w.done w.parts → range < length w.parts → is_open (holding_of w) range ≡ true → IsPartAt g range (part_at w.parts range)
part_before g w range table inside able =
    subst (λ b. IsPartAt (if b then after_batch w.entry.batch g else g) range (part_at w.parts range)) (open_parts w range able).1 (table.each range inside)

pub own_inside : (w : Work) (range : ℕ) → IsEditable range w → AreEditsOf (part_at w.parts range) (own_edits w.entry.batch range)
own_inside w range is =
    range_own is.graph (part_at w.parts range) 0 w.entry.batch range is.small (part_before is.graph w range is.table (range_inside w range is) is.still_open) is.below

-- among the lists is that of a range that may be edited
pub list_inside : (w : Work) (vectors : Vec (Vec Edit Global) Global) (range : ℕ) → AreLeft w.entry.batch w.done (lists_of vectors.items) → IsEditable range w → range < vectors.len
list_inside w vectors range left is = subst (λ n. range < n) (sym vectors.ok.0) (open_inside (holding_of w) vectors.items range left is.still_open)

-- its list, which was read, has all that is of it
pub own_read : (w : Work) (vectors : List (Vec Edit Global)) (range : ℕ) (v : Vec Edit Global) → AreLeft w.entry.batch w.done (lists_of vectors) → IsEditable range w → v ≡ get_or vectors range v → v.items ≡ own_edits w.entry.batch range
own_read w vectors range v left is read =
    let inside = open_inside (holding_of w) vectors range left is.still_open in
    read_left vectors range v inside read ∙ left_own w.entry.batch w.done (lists_of vectors) range left (open_parts w range is.still_open).1

abbrev work : Work → List ℕ → List Part → Work
work w done parts = record w { done = done; parts = parts }

-- one range more is done
pub work_applied : (w : Work) (range : ℕ) (q : Part) → IsEditable range w → IsPartAfter (own_edits w.entry.batch range) (part_at w.parts range) q → IsWorkAfter range w (work w (w.done ++ range ∷ []) (set w.parts range q))
work_applied w range q is after = record {
  entry = refl;
  done = refl;
  table = λ g below table. table_applied g w.entry.batch w.done w.parts range q below table (range_inside w range is) (open_parts w range is.still_open).1 after;
}
