use Rattle.word_sets.proofs.Members.{less}
use Rattle.word_sets.proofs.laws.one_word_less.Goals as goal

pub returns : goal.returns
returns c = less
