use Rattle.map_model.proofs.Joined.{pushes_join}
use Rattle.map_model.proofs.laws.pushes_join.Goals as goal

pub returns : goal.returns
returns c = pushes_join
