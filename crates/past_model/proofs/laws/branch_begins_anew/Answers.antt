use Rattle.past_model.proofs.Epochs.{branch_begins_anew}
use Rattle.past_model.proofs.laws.branch_begins_anew.Goals as goal

pub returns : goal.returns
returns c = branch_begins_anew
