use Rattle.bpf_asm.specs.Lexing.{is_sign}
use Rattle.bpf_asm.proofs.Bytes.{position-within}
use Rattle.std.proofs.Common.{arith}
use Rattle.bpf_asm.proofs.reading.argument.place.Goals as goal

pub split_at-requires : goal.split_at-requires
split_at-requires c = omega (arith, position-within is_sign c.args.text.now)
