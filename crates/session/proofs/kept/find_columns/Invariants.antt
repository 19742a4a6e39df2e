use Rattle.std.proofs.Common.{◌≡◌, [], drop}
use Rattle.std.specs.Prelude.{map}
use Rattle.session_model.specs.Session.{columns_named}
use Rattle.session.specs.Kept.{kept_column, each_now}
use Rattle.session.proofs.NamedColumns.{after}
use Rattle.session.proofs.kept.find_columns.Given as goal

-- the columns so far, and those of the names that are left
abbrev pub invariant-loop-name : goal.invariant-loop-name
invariant-loop-name l =
    after (each_now l.found.items) (columns_named (each_now (drop l.name-index l.names)) (map kept_column l.columns))
    ≡ after [] (columns_named (each_now l.names) (map kept_column l.columns))
