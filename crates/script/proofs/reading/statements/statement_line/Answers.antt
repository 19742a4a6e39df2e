use Rattle.std.proofs.Common.{sym, ap, ◌∙◌}
use Rattle.script_model.specs.Lexing.{words}
use Rattle.script_model.specs.Parsing.{statement}
use Rattle.script.specs.Said.{cut_saying, saying_of}
use Rattle.script.proofs.StatementLemmas.{saying-statement, said_some, said_none}
use Rattle.script.proofs.reading.statements.statement_line.Goals as goal

pub returns-in-Some-2 : goal.returns-in-Some-2
returns-in-Some-2 c =
    let line = ap saying_of c.in-Some.ensures.words ∙ saying-statement c.in-Some.word.now (words c.in-Some.operands.now) (sym c.is_comment.ensures ∙ c.if-is_comment.false) in
    said_some c.in_ok-statement.field-0 c.in-Some-2.statement (statement c.in-Some.word.now (words c.in-Some.operands.now)) c.in-Some-2.is c.in_ok-statement.ensures ∙ sym (ap cut_saying line)

pub returns-in-None : goal.returns-in-None
returns-in-None c =
    let line = ap saying_of c.in-Some.ensures.words ∙ saying-statement c.in-Some.word.now (words c.in-Some.operands.now) (sym c.is_comment.ensures ∙ c.if-is_comment.false) in
    said_none c.in_ok-statement.field-0 (statement c.in-Some.word.now (words c.in-Some.operands.now)) c.in-None.is c.in_ok-statement.ensures ∙ sym (ap cut_saying line)
