use Rattle.std.proofs.Common.{◌≡◌, ◌++◌}
use Rattle.std.specs.Prelude.{string_bytes}
use Rattle.explanation.specs.Pieces.{pieces_to}
use Rattle.explanation.specs.Values.{byte_piece}
use Rattle.explanation.proofs.values.put_bytes.Given as goal

abbrev pub invariant-loop-byte : goal.invariant-loop-byte
invariant-loop-byte l = string_bytes l.text ≡ string_bytes l.fn.text ++ pieces_to (byte_piece l.frame l.number) l.byte
