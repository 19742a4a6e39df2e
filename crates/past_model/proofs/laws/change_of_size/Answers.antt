use Rattle.past_model.proofs.Batches.{change_of_size}
use Rattle.past_model.proofs.laws.change_of_size.Goals as goal

pub returns : goal.returns
returns c = change_of_size
