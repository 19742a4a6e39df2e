use Rattle.std.proofs.Common.{◌∙◌}
use Rattle.bpf_asm.proofs.Bytes.{same_bytes-pointwise}
use Rattle.bpf_asm.proofs.reading.lookup.is_text.Goals as goal

pub returns : goal.returns
returns c = (rw c.as_bytes.ensures.value at c.eq.ensures) ∙ same_bytes-pointwise c.args.text.now c.args.expected.now
