use Rattle.map_model.proofs.Whole.{parts_are_the_whole}
use Rattle.map_model.proofs.laws.parts_are_the_whole.Goals as goal

pub returns : goal.returns
returns c = parts_are_the_whole
