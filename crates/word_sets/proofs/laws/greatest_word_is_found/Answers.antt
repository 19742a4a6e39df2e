use Rattle.word_sets.proofs.FewWords.{only_place}
use Rattle.word_sets.proofs.laws.greatest_word_is_found.Goals as goal

pub returns : goal.returns
returns c = only_place c.place.result c.place.ensures
