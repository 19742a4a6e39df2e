use Rattle.std.proofs.Common.{◌≡◌, ◌++◌, ℕ, List, take, drop}
use Rattle.std.specs.Prelude.{map}
use Rattle.session_model.specs.Session.{stored, column_named}
use Rattle.session.specs.Kept.{kept_column}
use Rattle.session.proofs.kept.place_of.Given as goal

-- the name is none of those so far
abbrev pub invariant-loop-at : goal.invariant-loop-at
invariant-loop-at l =
    ((numbers : List ℕ) → stored l.name numbers (map kept_column l.columns)
    ≡ map kept_column (take l.at l.columns) ++ stored l.name numbers (map kept_column (drop l.at l.columns)))
    × (column_named l.name (map kept_column l.columns) ≡ column_named l.name (map kept_column (drop l.at l.columns)))
