use Rattle.past_model.proofs.Epochs.{pasts_are_in_order}
use Rattle.past_model.proofs.laws.pasts_are_in_order.Goals as goal

pub returns : goal.returns
returns c = pasts_are_in_order
