use Rattle.std.proofs.Common.{◌∙◌}
use Rattle.script.proofs.WordLemmas.{same_bytes-pointwise}
use Rattle.script.proofs.reading.words.is_word.Goals as goal

pub returns : goal.returns
returns c = (rw c.as_bytes.ensures.value at c.eq.ensures) ∙ same_bytes-pointwise c.args.word.now c.args.expected.now
