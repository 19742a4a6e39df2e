use Rattle.std.proofs.Common.{◌≡◌, ◌<◌, length, sym, ◌∙◌, ap, arith}
use Rattle.std.proofs.lemmas.Bool.Decides.{nat_tests}
use Rattle.std.proofs.lemmas.List.{take_rest}
use Rattle.script_model.specs.Lexing.{words}
use Rattle.script.specs.Reading.{first_number}
use Rattle.script.proofs.NumberLemmas.{spelled, spelled_first, spelled_to_blank, spelled_no, spelled_all, found}
use Rattle.script.proofs.reading.numbers.next_number.Goals as goal

pub returns-then-is_blank-clause-first : goal.returns-then-is_blank-clause-first
returns-then-is_blank-clause-first c =
    let some : 0 < length c.without_blanks-text.result.now = grind (arith, nat_tests) in
    let first : spelled 0 c.without_blanks-text.result.now ≡ first_number (words c.args.line.now) = spelled_first c.without_blanks-text.result.now (c.without_blanks-text.ensures.word some) ∙ ap first_number c.without_blanks-text.ensures.words in
    let stop = spelled_to_blank c.loop-at.number c.loop-at.at c.without_blanks-text.result.now c.loop-at-test.true (sym c.is_blank.ensures ∙ c.if-is_blank.true) in
    sym first ∙ sym c.loop-at.invariant ∙ stop ∙ ap (λ rest. found c.loop-at.number (words rest)) (sym (take_rest c.without_blanks-text.result.now c.loop-at.at))

pub returns-then-not-is_digit-clause-first : goal.returns-then-not-is_digit-clause-first
returns-then-not-is_digit-clause-first c =
    let some : 0 < length c.without_blanks-text.result.now = grind (arith, nat_tests) in
    let first : spelled 0 c.without_blanks-text.result.now ≡ first_number (words c.args.line.now) = spelled_first c.without_blanks-text.result.now (c.without_blanks-text.ensures.word some) ∙ ap first_number c.without_blanks-text.ensures.words in
    sym first ∙ sym c.loop-at.invariant ∙ spelled_no c.loop-at.number c.loop-at.at c.without_blanks-text.result.now c.loop-at-test.true (sym c.is_blank.ensures ∙ c.if-is_blank.false) (sym c.is_digit.ensures ∙ c.if-not-is_digit.true)

pub returns-clause-first : goal.returns-clause-first
returns-clause-first c =
    let some : 0 < length c.without_blanks-text.result.now = grind (arith, nat_tests) in
    let first : spelled 0 c.without_blanks-text.result.now ≡ first_number (words c.args.line.now) = spelled_first c.without_blanks-text.result.now (c.without_blanks-text.ensures.word some) ∙ ap first_number c.without_blanks-text.ensures.words in
    sym first ∙ sym c.loop-at.invariant ∙ spelled_all c.loop-at.number c.loop-at.at c.without_blanks-text.result.now c.loop-at-test.false
