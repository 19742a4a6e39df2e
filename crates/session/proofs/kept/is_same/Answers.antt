use Rattle.std.proofs.Common.{◌∙◌}
use Rattle.bpf_asm.proofs.Bytes.{same_bytes-pointwise}
use Rattle.session.proofs.kept.is_same.Goals as goal

pub returns : goal.returns
returns c = c.eq.ensures ∙ same_bytes-pointwise c.args.a.now c.args.b.now
