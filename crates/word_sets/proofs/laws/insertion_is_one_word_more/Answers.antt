use Rattle.word_sets.proofs.Targets.{inserted}
use Rattle.word_sets.proofs.laws.insertion_is_one_word_more.Goals as goal

pub returns : goal.returns
returns c = inserted
