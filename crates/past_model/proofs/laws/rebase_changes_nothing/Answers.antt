use Rattle.past_model.proofs.Epochs.{rebase_changes_nothing}
use Rattle.past_model.proofs.laws.rebase_changes_nothing.Goals as goal

pub returns : goal.returns
returns c = rebase_changes_nothing
