use Rattle.std.proofs.Common.{sym, subst}
use Rattle.script_model.specs.Lexing.{words}
use Rattle.script_model.specs.Execution.{Execution}
use Rattle.script.specs.Executes.{Prints}
use Rattle.script.proofs.PlainLines.{batch_execution}
use Rattle.script.proofs.script.Script.execute_batch_line.Goals as goal

pub returns-clause-executed : goal.returns-clause-executed
returns-clause-executed g c =
    let begun = c.requires.open.0 in
    let is_open = c.requires.open.1 in
    let told = c.execute_in_batch.ensures.executed (words c.args.bytes.now) begun is_open c.batch_line.ensures in
    subst (λ (x : Execution). Prints x c.execute_in_batch.result c.args.text.now.items c.execute_in_batch.new.text.items c.execute_in_batch.new.self)
    (sym (batch_execution c.args.self.now c.args.bytes.now begun is_open c.requires.short)) told
