use Rattle.std.proofs.Common.{sym, ap, ◌∙◌}
use Rattle.std.specs.Prelude.{option_map}
use Rattle.script_model.specs.Lexing.{words}
use Rattle.script_model.specs.Parsing.{column_statement}
use Rattle.script.specs.Said.{cut_statement}
use Rattle.script.proofs.StatementLemmas.{column_statement-named, column_statement-unnamed, column_statement-numberless}
use Rattle.script.proofs.reading.lending.column_words.Goals as goal

pub returns-then-not-is_column_name : goal.returns-then-not-is_column_name
returns-then-not-is_column_name c =
    ap column_statement c.in_ok-name.ensures.words
    ∙ column_statement-unnamed c.in_ok-name.name.now (words c.in_ok-name.rest.now) (sym c.is_column_name.ensures ∙ c.if-not-is_column_name.true)

pub returns-in_default : goal.returns-in_default
returns-in_default c =
    ap column_statement c.in_ok-name.ensures.words
    ∙ column_statement-numberless c.in_ok-name.name.now (words c.in_ok-name.rest.now) c.in_default.ensures.first

pub returns : goal.returns
returns c =
    ap (λ line. option_map cut_statement (column_statement line)) c.in_ok-name.ensures.words
    ∙ column_statement-named c.in_ok-name.name.now (words c.in_ok-name.rest.now) c.in-Some.first (words c.in-Some.numbers.now) c.in-Some.ensures.first (sym c.is_column_name.ensures ∙ c.if-not-is_column_name.false)
