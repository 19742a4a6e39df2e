use Rattle.past_model.proofs.HomeLemmas.{home_of_longer}
use Rattle.past_model.proofs.laws.home_of_longer.Goals as goal

pub returns : goal.returns
returns c = home_of_longer
