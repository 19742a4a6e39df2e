use Rattle.std.proofs.Common.{◌≡◌, ◌++◌}
use Rattle.std.specs.Prelude.{string_bytes}
use Rattle.explanation.specs.Pieces.{pieces_to}
use Rattle.explanation.specs.Explanation.{call_piece}
use Rattle.explanation.proofs.listing.put_call_lines.Given as goal

abbrev pub invariant-loop-k : goal.invariant-loop-k
invariant-loop-k l = string_bytes l.text ≡ string_bytes l.fn.text ++ pieces_to (call_piece l.passages l.pc) l.k
