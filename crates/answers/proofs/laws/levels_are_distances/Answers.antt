use Rattle.answers.proofs.Ways.{distances}
use Rattle.answers.proofs.laws.levels_are_distances.Goals as goal

pub returns : goal.returns
returns c = distances
