use Rattle.bpf_asm.specs.Lexing.{is_blank}
use Rattle.bpf_asm.proofs.Bytes.{position-within}
use Rattle.std.proofs.Common.{arith}
use Rattle.bpf_asm.proofs.reading.line.said.Goals as goal

pub split_at-requires : goal.split_at-requires
split_at-requires c = omega (arith, position-within is_blank c.args.text.now)
