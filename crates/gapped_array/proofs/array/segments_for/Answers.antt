use Rattle.std.proofs.Common.{arith}
use Rattle.word_sets.specs.declared.places.TheConstants.{WORD_LIMIT}
use Rattle.word_sets.proofs.Within.{IsWithin-length}
use Rattle.gapped_array.proofs.array.segments_for.Goals as goal

pub returns-clause-fits : goal.returns-clause-fits
returns-clause-fits c =
    let n = IsWithin-length 0 WORD_LIMIT c.args.words.now c.requires in omega (arith, n, c.div_ceil.ensures)

pub overflow_cast-result : goal.overflow_cast-result
overflow_cast-result c =
    let n = IsWithin-length 0 WORD_LIMIT c.args.words.now c.requires in omega (arith, n, c.div_ceil.ensures)
