use Rattle.std.proofs.Common.{◌∷◌, sym, ap, ◌∙◌}
use Rattle.std.proofs.lemmas.Bool.{both_ways}
use Rattle.script_model.specs.Lexing.{words}
use Rattle.script_model.specs.Parsing.{list_statement}
use Rattle.script.proofs.StatementLemmas.{list_statement-unnamed, list_statement-unnamed_pin, list_statement-long}
use Rattle.script.proofs.reading.statements.list_words.Goals as goal
use Rattle.script.proofs.reading.statements.list_words.Goals.{then-not-is_name-via-then-not-is_name, then-not-is_name-via-else-not-is_name+then-not-is_name-2, then-not-is_name-via-else-not-is_name+else-not-is_name-2+then-not-has_no_word}

pub returns-then-not-is_name : goal.returns-then-not-is_name
returns-then-not-is_name c =
    let program = c.in_ok-program.program.now in
    let pin = c.in_ok-pin.pin.now in
    let first = ap list_statement c.in_ok-program.ensures.words in
    let second = first ∙ ap (λ line. list_statement (program ∷ line)) c.in_ok-pin.ensures.words in
    elim c.then-not-is_name.branch [
      | then-not-is_name-via-then-not-is_name w ↦
          first ∙ list_statement-unnamed program (words c.in_ok-program.rest.now) (sym c.is_name.ensures ∙ w.if-not-is_name.true)
      | then-not-is_name-via-else-not-is_name+then-not-is_name-2 w ↦
          second ∙ list_statement-unnamed_pin program pin (words c.in_ok-pin.rest.now) (sym w.is_name-else-not-is_name.ensures ∙ w.if-not-is_name-2.true)
      | then-not-is_name-via-else-not-is_name+else-not-is_name-2+then-not-has_no_word w ↦
          second ∙ ap (λ line. list_statement (program ∷ pin ∷ line)) c.in_ok-digits.ensures.words
          ∙ list_statement-long program pin c.in_ok-digits.digits.now (words c.in_ok-digits.rest.now) (λ none. both_ways w.has_no_word.result w.if-not-has_no_word.true (w.has_no_word.ensures.1 none))
    ]
