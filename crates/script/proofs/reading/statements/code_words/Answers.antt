use Rattle.std.proofs.Common.{sym, ap, ◌∙◌}
use Rattle.std.specs.Prelude.{Some, option_map}
use Rattle.std.proofs.lemmas.Bool.{both_ways}
use Rattle.script_model.specs.Lexing.{words}
use Rattle.script_model.specs.Parsing.{code_statement}
use Rattle.script.specs.Said.{cut_statement}
use Rattle.script.proofs.StatementLemmas.{code_statement-three, code_statement-unnamed, code_statement-long}
use Rattle.script.proofs.reading.statements.code_words.Goals as goal
use Rattle.script.proofs.reading.statements.code_words.Goals.{then-not-is_name-via-then-not-is_name, then-not-is_name-via-else-not-is_name+then-not-has_no_word}

pub returns-then-not-is_name : goal.returns-then-not-is_name
returns-then-not-is_name c = elim c.then-not-is_name.branch [
  | then-not-is_name-via-then-not-is_name w ↦
      ap code_statement c.in_ok-name.ensures.words ∙ code_statement-unnamed c.in_ok-name.name.now (words c.in_ok-name.rest.now) (sym c.is_name.ensures ∙ w.if-not-is_name.true)
  | then-not-is_name-via-else-not-is_name+then-not-has_no_word w ↦
      let first = c.in_ok-record_length.ensures.first ∙ ap (λ rest. Some (c.in_ok-record_length.record_length, rest)) c.in_ok-digits.ensures.words in
      ap code_statement c.in_ok-name.ensures.words
      ∙ code_statement-long c.in_ok-name.name.now (words c.in_ok-name.rest.now) c.in_ok-record_length.record_length c.in_ok-digits.digits.now (words c.in_ok-digits.rest.now) first (λ none. both_ways w.has_no_word.result w.if-not-has_no_word.true (w.has_no_word.ensures.1 none))
]

pub returns : goal.returns
returns c =
    let first = c.in_ok-record_length.ensures.first ∙ ap (λ rest. Some (c.in_ok-record_length.record_length, rest)) c.in_ok-digits.ensures.words in
    ap (λ line. option_map cut_statement (code_statement line)) c.in_ok-name.ensures.words
    ∙ code_statement-three c.in_ok-name.name.now (words c.in_ok-name.rest.now) c.in_ok-record_length.record_length c.in_ok-digits.digits.now (words c.in_ok-digits.rest.now) first (c.has_no_word.ensures.0 c.if-not-has_no_word.false) (sym c.is_name.ensures ∙ c.if-not-is_name.false)
