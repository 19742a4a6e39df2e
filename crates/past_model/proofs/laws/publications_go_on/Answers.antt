use Rattle.past_model.proofs.Epochs.{publications_go_on}
use Rattle.past_model.proofs.laws.publications_go_on.Goals as goal

pub returns : goal.returns
returns c = publications_go_on
