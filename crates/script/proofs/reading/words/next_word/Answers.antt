use Rattle.std.proofs.Common.{◌<◌, ◌∙◌, sym, length, arith}
use Rattle.std.proofs.lemmas.Bool.Decides.{nat_tests}
use Rattle.script.proofs.WordLemmas.{words-word, position-within}
use Rattle.script.proofs.reading.words.next_word.Goals as goal

pub split_at-requires : goal.split_at-requires
split_at-requires c = omega (arith, position-within c.without_blanks-text.result.now)

pub returns-clause-words : goal.returns-clause-words
returns-clause-words c =
    let some : 0 < length c.without_blanks-text.result.now = grind (arith, nat_tests) in
    let first = words-word c.without_blanks-text.result.now (c.without_blanks-text.ensures.word some) in
    sym c.without_blanks-text.ensures.words ∙ (rw (c.split_at.ensures.front, c.split_at.ensures.back, c.word_length.ensures) first)
