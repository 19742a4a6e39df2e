-- Ranges with their edits, where these lie one after another.
use Rattle.std.specs.Prelude.{ℕ, ◌-◌, ◌≤◌, List, take, drop}
use Rattle.past_model.specs.declared.edit.Edit.{Edit}
use Rattle.batch_apply.specs.declared.pieces.Run.{Run}
use Rattle.batch_apply.specs.Dealt.{Piece}

-- a range with the edits between two places
abbrev pub piece_in : List Edit → Run → Piece
piece_in es run = (run.range, take (run.end - run.start) (drop run.start es))

-- both places are among so many
abbrev pub IsWithin : ℕ → Run → Type 0
IsWithin count run = (run.start ≤ run.end) × (run.end ≤ count)
