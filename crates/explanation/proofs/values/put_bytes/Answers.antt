use Rattle.std.specs.Prelude.{string_bytes}
use Rattle.explanation.specs.Values.{byte_piece}
use Rattle.explanation.proofs.Written.{written_none}
use Rattle.explanation.proofs.values.put_bytes.Goals as goal

pub loop-byte-init : goal.loop-byte-init
loop-byte-init c = written_none (byte_piece c.args.frame.now c.args.number) (string_bytes c.args.text.now)
