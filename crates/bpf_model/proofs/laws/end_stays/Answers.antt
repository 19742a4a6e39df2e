use Rattle.bpf_model.proofs.Runs.{after-at_end}
use Rattle.bpf_model.proofs.laws.end_stays.Goals as goal

pub returns : goal.returns
returns c = after-at_end
