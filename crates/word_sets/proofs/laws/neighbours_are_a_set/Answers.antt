use Rattle.word_sets.proofs.Targets.{neighbour_set}
use Rattle.word_sets.proofs.laws.neighbours_are_a_set.Goals as goal

pub returns : goal.returns
returns c = neighbour_set
