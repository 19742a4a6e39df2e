use Rattle.map_model.proofs.PushedWhole.{push_parts_are_the_whole}
use Rattle.map_model.proofs.laws.push_parts_are_the_whole.Goals as goal

pub returns : goal.returns
returns c = push_parts_are_the_whole
