-- The edits of a batch by ranges, and the pieces of work that they are, dealt to workers in turn.
use Rattle.std.specs.Prelude.{ℕ, ◌+◌, ◌*◌, ◌<◌, List, length, map, Vec, slice_index_or}
use Rattle.std.specs.declared.alloc.Global.{Global}
use Rattle.past_model.specs.declared.edit.Edit.{Edit}
use Rattle.shards.specs.declared.edited_shard.EditedShard.{EditedShard}
use Rattle.shards.specs.Groups.{Grouped, edits_of, filled_groups}
use Rattle.shards.specs.Part.{Part, AreEditsOf}
use Rattle.shard_table.specs.Table.{part_at}
use Rattle.shard_table.specs.Made.{IsMade}

-- a range's number, and its edits
abbrev pub Piece : Type 0
Piece = ℕ × List Edit

-- each range that has an edit, ascending, and its edits in their order
abbrev pub pieces_of : Grouped → List Piece
pieces_of groups = map (λ range. (range, edits_of groups range)) (filled_groups groups)

-- the edits are of a shard of its range
abbrev pub IsReady : List Part → Piece → Type 0
IsReady parts piece = (piece.0 < length parts) × AreEditsOf (part_at parts piece.0) piece.1

-- it was made of the shard of the range, and of its edits
abbrev pub IsMadeOf : List Part → Piece → EditedShard → Type 0
IsMadeOf parts piece made = IsMade (part_at parts piece.0) piece.1 made

-- what one worker made: of the piece at its first place, and of each so many places further on
abbrev pub IsDealt : List Part → List Piece → ℕ → ℕ → List EditedShard → Type 0
IsDealt parts pieces first step made = (i : ℕ) → first + i * step < length pieces
    → (i < length made)
    × ((p : Piece) (d : EditedShard) → IsMadeOf parts (slice_index_or pieces (first + i * step) p) (slice_index_or made i d))

-- what all workers made, where the first piece is the first worker's, the next one the second's, and so in turn
pub record AreDealt (parts : List Part) (pieces : List Piece) (step : ℕ) (lists : List (Vec EditedShard Global)) : Type 0 where
  pub each : (worker : ℕ) → worker < length lists
      → (d : Vec EditedShard Global) → IsDealt parts pieces worker step (slice_index_or lists worker d).items
