use Rattle.std.proofs.Common.{◌≡◌, ◌++◌}
use Rattle.std.specs.Prelude.{string_bytes}
use Rattle.explanation.specs.Pieces.{pieces_to}
use Rattle.explanation.specs.Values.{slot_piece}
use Rattle.explanation.proofs.values.put_slots.Given as goal

abbrev pub invariant-loop-slot : goal.invariant-loop-slot
invariant-loop-slot l = string_bytes l.text ≡ string_bytes l.fn.text ++ pieces_to (slot_piece l.frame l.number) l.slot
