use Rattle.bpf_locality.proofs.Written.{step_writes}
use Rattle.bpf_locality.proofs.laws.a_step_writes_live_bytes.Goals as goal

pub returns : goal.returns
returns c = step_writes
