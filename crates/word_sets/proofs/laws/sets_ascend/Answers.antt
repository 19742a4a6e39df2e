use Rattle.word_sets.proofs.Within.{ascends}
use Rattle.word_sets.proofs.laws.sets_ascend.Goals as goal

pub returns : goal.returns
returns c = ascends
