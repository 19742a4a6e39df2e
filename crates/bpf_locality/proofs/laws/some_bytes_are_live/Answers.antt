use Rattle.bpf_locality.proofs.Live.{some_live}
use Rattle.bpf_locality.proofs.laws.some_bytes_are_live.Goals as goal

pub returns : goal.returns
returns c = some_live
