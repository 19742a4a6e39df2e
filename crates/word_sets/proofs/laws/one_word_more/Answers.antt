use Rattle.word_sets.proofs.Members.{more}
use Rattle.word_sets.proofs.laws.one_word_more.Goals as goal

pub returns : goal.returns
returns c = more
