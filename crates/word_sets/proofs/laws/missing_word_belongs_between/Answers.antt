use Rattle.word_sets.proofs.FewWords.{place_between}
use Rattle.word_sets.proofs.laws.missing_word_belongs_between.Goals as goal

pub returns : goal.returns
returns c = place_between c.place.result c.place.ensures
