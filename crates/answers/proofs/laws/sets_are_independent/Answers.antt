use Rattle.answers.proofs.Sets.{independent}
use Rattle.answers.proofs.laws.sets_are_independent.Goals as goal

pub returns : goal.returns
returns c = independent
