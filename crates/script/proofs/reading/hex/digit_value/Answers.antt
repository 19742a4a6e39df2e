use Rattle.std.proofs.Common.{arith}
use Rattle.script.proofs.HexTable.{digit_read, digit_refused}
use Rattle.script.proofs.reading.hex.digit_value.Goals as goal

pub returns-clause-digit : goal.returns-clause-digit
returns-clause-digit c small = digit_read c.args.byte (omega arith) small

pub returns-clause-other : goal.returns-clause-other
returns-clause-other c big = digit_refused c.args.byte (omega arith) big
