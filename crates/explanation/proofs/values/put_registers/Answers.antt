use Rattle.std.specs.Prelude.{string_bytes}
use Rattle.explanation.specs.Values.{register_piece}
use Rattle.explanation.proofs.Written.{written_none}
use Rattle.explanation.proofs.values.put_registers.Goals as goal

pub loop-number-init : goal.loop-number-init
loop-number-init c = written_none (register_piece c.args.state.now) (string_bytes c.args.text.now)
