use Rattle.word_sets.proofs.Targets.{removed}
use Rattle.word_sets.proofs.laws.removal_is_one_word_less.Goals as goal

pub returns : goal.returns
returns c = removed
