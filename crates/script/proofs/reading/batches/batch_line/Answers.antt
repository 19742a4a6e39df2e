use Rattle.std.proofs.Common.{◌≡◌, false, ◌∷◌, sym, ap, ◌∙◌}
use Rattle.std.specs.Prelude.{option_map}
use Rattle.script_model.specs.Lexing.{words}
use Rattle.script_model.specs.Parsing.{batch_line, is_end}
use Rattle.script.specs.Said.{cut_batch_line}
use Rattle.script.proofs.BatchLemmas.{batch_line-plus, batch_line-minus, batch_line-end, batch_line-other}
use Rattle.script.proofs.reading.batches.batch_line.Goals as goal

pub returns-then-is_word : goal.returns-then-is_word
returns-then-is_word c =
    let line = ap batch_line c.in_ok-sign.ensures.words ∙ batch_line-plus c.in_ok-sign.sign.now (words c.in_ok-sign.rest.now) (sym c.is_word.ensures ∙ c.if-is_word.true) in
    c.insertion.ensures ∙ sym (ap (option_map cut_batch_line) line)

pub returns-then-is_word-2 : goal.returns-then-is_word-2
returns-then-is_word-2 c =
    let line = ap batch_line c.in_ok-sign.ensures.words ∙ batch_line-minus c.in_ok-sign.sign.now (words c.in_ok-sign.rest.now) (sym c.is_word-2.ensures ∙ c.if-is_word-2.true) in
    c.removal.ensures ∙ sym (ap (option_map cut_batch_line) line)

pub returns-then-is_end : goal.returns-then-is_end
returns-then-is_end c =
    sym (ap (option_map cut_batch_line) (batch_line-end (words c.args.line.now) (sym c.is_end.ensures ∙ c.if-is_end.true)))

pub returns : goal.returns
returns c =
    let end : is_end (c.in_ok-sign.sign.now ∷ words c.in_ok-sign.rest.now) ≡ false = sym (ap is_end c.in_ok-sign.ensures.words) ∙ sym c.is_end.ensures ∙ c.if-is_end.false in
    let line = ap batch_line c.in_ok-sign.ensures.words ∙ batch_line-other c.in_ok-sign.sign.now (words c.in_ok-sign.rest.now) (sym c.is_word.ensures ∙ c.if-is_word.false) (sym c.is_word-2.ensures ∙ c.if-is_word-2.false) end in
    sym (ap (option_map cut_batch_line) line)
