use Rattle.std.proofs.Common.{refl}
use Rattle.map_model.specs.Pushes.{pushed, changed}
use Rattle.map_model.proofs.laws.worked_pushes.Goals as goal

pub returns : goal.returns
unfolding pushed changed
returns c = ((refl, refl), (refl, refl), (refl, refl), (refl, refl), (refl, refl))
