use Rattle.std.proofs.Common.{◌≡◌, drop}
use Rattle.std.specs.List.{list_all}
use Rattle.session.specs.Kept.{each_now}
use Rattle.script_model.specs.Lexing.{is_column_name}
use Rattle.script.proofs.reading.names.are_column_names.Given as goal

-- those so far are
abbrev pub invariant-loop-name : goal.invariant-loop-name
invariant-loop-name l = list_all is_column_name (each_now l.names) ≡ list_all is_column_name (each_now (drop l.name-index l.names))
