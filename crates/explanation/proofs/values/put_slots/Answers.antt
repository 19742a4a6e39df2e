use Rattle.std.specs.Prelude.{string_bytes}
use Rattle.explanation.specs.Values.{slot_piece}
use Rattle.explanation.proofs.Written.{written_none}
use Rattle.explanation.proofs.values.put_slots.Goals as goal

pub loop-slot-init : goal.loop-slot-init
loop-slot-init c = written_none (slot_piece c.args.frame.now c.args.number) (string_bytes c.args.text.now)
