use Rattle.bpf_model.proofs.Runs.{after-in_turn}
use Rattle.bpf_model.proofs.laws.steps_in_turn.Goals as goal

pub returns : goal.returns
returns c = after-in_turn
