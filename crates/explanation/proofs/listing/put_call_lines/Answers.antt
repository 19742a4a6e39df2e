use Rattle.std.specs.Prelude.{string_bytes}
use Rattle.explanation.specs.Explanation.{call_piece}
use Rattle.explanation.proofs.Written.{written_none}
use Rattle.explanation.proofs.listing.put_call_lines.Goals as goal

pub loop-k-init : goal.loop-k-init
loop-k-init c = written_none (call_piece c.args.passages.now c.args.pc) (string_bytes c.args.text.now)
