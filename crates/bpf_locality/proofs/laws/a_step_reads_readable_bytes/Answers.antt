use Rattle.bpf_locality.proofs.Read.{step_reads}
use Rattle.bpf_locality.proofs.laws.a_step_reads_readable_bytes.Goals as goal

pub returns : goal.returns
returns c = step_reads
