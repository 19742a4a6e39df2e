use Rattle.map_model.proofs.Pushes.{pushed_in_turn}
use Rattle.map_model.proofs.laws.pushes_in_turn.Goals as goal

pub returns : goal.returns
returns c = pushed_in_turn
