use Rattle.history.proofs.Moments.{bases_go_on}
use Rattle.history.proofs.laws.bases_go_on.Goals as goal

pub returns : goal.returns
returns c = bases_go_on
