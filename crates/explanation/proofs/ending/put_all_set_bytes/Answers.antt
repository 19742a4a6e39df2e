use Rattle.std.specs.Prelude.{string_bytes}
use Rattle.explanation.specs.Explanation.{set_bytes_piece}
use Rattle.explanation.proofs.Written.{written_none}
use Rattle.explanation.proofs.ending.put_all_set_bytes.Goals as goal

pub loop-number-init : goal.loop-number-init
loop-number-init c = written_none (set_bytes_piece c.args.state.now) (string_bytes c.args.text.now)
