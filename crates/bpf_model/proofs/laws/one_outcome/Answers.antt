use Rattle.bpf_model.proofs.Outcomes.{one_outcome}
use Rattle.bpf_model.proofs.laws.one_outcome.Goals as goal

pub returns : goal.returns
returns c = one_outcome
