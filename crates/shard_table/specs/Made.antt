-- A batch on a table in parts: each shard that it edits made on its own, and put in at its range.
use Rattle.std.specs.Prelude.{◌≡◌, ℕ, ◌+◌, ◌<◌, ◌≤◌, true, List, length, slice_index_or}
use Rattle.std.specs.Borrow.{Bor}
use Rattle.std.specs.Arc.{arc_value}
use Rattle.past_model.specs.declared.edit.Edit.{Edit}
use Rattle.shards.specs.declared.groups.Grouping.TheVariants.{ByRange}
use Rattle.shards.specs.declared.edited_shard.EditedShard.{EditedShard}
use Rattle.shards.specs.Edited.{IsMadeOf}
use Rattle.shards.specs.Groups.{Grouped, edits_of, is_filled, filled_below}
use Rattle.shards.specs.Part.{Part}
use Rattle.shard_table.specs.Table.{IsEditable, part_at}

-- the edits of a graph with these parts, in groups by their ranges
pub record IsBatch (groups : Grouped) (parts : List Part) : Type 0 where
  pub by_range : groups.grouping ≡ ByRange
  pub count : groups.count ≡ length parts
  pub editable : IsEditable parts groups.edits

-- it was made of this shard and these edits
abbrev pub IsMade : Part → List Edit → EditedShard → Type 0
IsMade shard es made = IsMadeOf shard es (arc_value made.shard) made.counts

-- for shards of ranges from one on: each that has edits was made, in the ranges' order
abbrev pub AreMade : Grouped → ℕ → List Part → List (Bor EditedShard) → Type 0
AreMade groups first shards made = (k : ℕ) → k < length shards → is_filled groups (first + k) ≡ true
    → (length (filled_below groups (first + k)) < length made)
    × ((d : Bor EditedShard) → IsMade (part_at shards k) (edits_of groups (first + k))
    (slice_index_or made (length (filled_below groups (first + k))) d).now)

-- the next edited shard, if there is one, is of no range below one
abbrev pub IsNoneBelow : List (Bor EditedShard) → ℕ → ℕ → Type 0
IsNoneBelow made next end = next < length made → (d : Bor EditedShard) → end ≤ (arc_value (slice_index_or made next d).now.shard).range
