use Rattle.word_sets.proofs.Parts.{one_part}
use Rattle.word_sets.proofs.laws.one_part_decides.Goals as goal

pub returns : goal.returns
returns c = one_part
