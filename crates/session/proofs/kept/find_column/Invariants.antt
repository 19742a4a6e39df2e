use Rattle.std.proofs.Common.{◌≡◌, drop}
use Rattle.std.specs.Prelude.{map}
use Rattle.session_model.specs.Session.{column_named}
use Rattle.session.specs.Kept.{kept_column}
use Rattle.session.proofs.kept.find_column.Given as goal

-- the name is none of those so far
abbrev pub invariant-loop-kept : goal.invariant-loop-kept
invariant-loop-kept l =
    column_named l.name (map kept_column l.columns) ≡ column_named l.name (map kept_column (drop l.kept-index l.columns))
