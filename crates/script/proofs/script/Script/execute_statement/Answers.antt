use Rattle.std.proofs.Common.{◌≡◌, sym, ap, subst, ◌∙◌}
use Rattle.session_model.specs.Commands.{Asked, WriteColumn}
use Rattle.session.specs.Kept.{asked_of}
use Rattle.script_model.specs.Parsing.{Asks}
use Rattle.script_model.specs.State.{Script}
use Rattle.script_model.specs.Execution.{Execution, statement_execution}
use Rattle.script.specs.Executes.{Prints}
use Rattle.script.specs.Said.{said_statement}
use Rattle.script.specs.declared.reading.line.Statement.{Statement as CodeStatement}
use Rattle.script.proofs.script.Script.execute_statement.Goals as goal

pub returns-in-WriteColumn-clause-executed : goal.returns-in-WriteColumn-clause-executed
returns-in-WriteColumn-clause-executed g c =
    let s : Script = c.args.self.now in
    let into = c.in-WriteColumn.into.now in
    let same : statement_execution (Asks (WriteColumn c.in-WriteColumn.way (asked_of c.asked-in-WriteColumn.result) into)) s ≡ statement_execution (said_statement c.args.statement) s =
    ap (λ (a : Asked). statement_execution (Asks (WriteColumn c.in-WriteColumn.way a into)) s) c.asked-in-WriteColumn.ensures ∙ ap (λ (x : CodeStatement). statement_execution (said_statement x) s) (sym c.in-WriteColumn.is) in
    subst (λ (x : Execution). Prints x c.perform-in-WriteColumn.result c.args.text.now.items c.perform-in-WriteColumn.new.text.items c.perform-in-WriteColumn.new.self) same c.perform-in-WriteColumn.ensures.executed
