use Rattle.bpf_model.proofs.Runs.{record_of_start}
use Rattle.bpf_model.proofs.laws.record_at_start.Goals as goal

pub returns : goal.returns
returns c = record_of_start
