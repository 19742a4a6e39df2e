use Rattle.std.proofs.Common.{◌≡◌, ◌++◌}
use Rattle.std.specs.Prelude.{string_bytes}
use Rattle.explanation.specs.Pieces.{pieces_to}
use Rattle.explanation.specs.Values.{frame_piece}
use Rattle.explanation.proofs.values.put_frames.Given as goal

abbrev pub invariant-loop-number : goal.invariant-loop-number
invariant-loop-number l = string_bytes l.text ≡ string_bytes l.fn.text ++ pieces_to (frame_piece l.state) l.number
