use Rattle.std.proofs.Common.{◌∷◌, sym, ap, ◌∙◌}
use Rattle.std.proofs.lemmas.Bool.{both_ways}
use Rattle.script_model.specs.Lexing.{words}
use Rattle.script_model.specs.Parsing.{image_statement}
use Rattle.script.proofs.StatementLemmas.{image_statement-unnamed, image_statement-long}
use Rattle.script.proofs.reading.statements.image_words.Goals as goal
use Rattle.script.proofs.reading.statements.image_words.Goals.{then-not-is_name-via-then-not-is_name, then-not-is_name-via-else-not-is_name+then-not-has_no_word}

pub returns-then-not-is_name : goal.returns-then-not-is_name
returns-then-not-is_name c =
    let name = c.in_ok-name.name.now in
    let first = ap image_statement c.in_ok-name.ensures.words in
    elim c.then-not-is_name.branch [
      | then-not-is_name-via-then-not-is_name w ↦
          first ∙ image_statement-unnamed name (words c.in_ok-name.rest.now) (sym c.is_name.ensures ∙ w.if-not-is_name.true)
      | then-not-is_name-via-else-not-is_name+then-not-has_no_word w ↦
          first ∙ ap (λ line. image_statement (name ∷ line)) c.in_ok-digits.ensures.words
          ∙ image_statement-long name c.in_ok-digits.digits.now (words c.in_ok-digits.rest.now) (λ none. both_ways w.has_no_word.result w.if-not-has_no_word.true (w.has_no_word.ensures.1 none))
    ]
