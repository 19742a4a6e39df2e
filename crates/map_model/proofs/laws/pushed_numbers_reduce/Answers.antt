use Rattle.map_model.proofs.Pushes.{pushed_reduce}
use Rattle.map_model.proofs.laws.pushed_numbers_reduce.Goals as goal

pub returns : goal.returns
returns c = pushed_reduce
