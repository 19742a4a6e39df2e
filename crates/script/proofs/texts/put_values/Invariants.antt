use Rattle.std.proofs.Common.{◌≡◌, ◌++◌, drop}
use Rattle.std.specs.List.{flat_map}
use Rattle.script_model.specs.Texts.{value_text}
use Rattle.script.proofs.texts.put_values.Given as goal

-- what is written, with the numbers that are left
abbrev pub invariant-loop-row : goal.invariant-loop-row
invariant-loop-row l =
    l.text.items ++ flat_map value_text (drop l.row-index l.rows) ≡ l.fn.text.items ++ flat_map value_text l.rows
