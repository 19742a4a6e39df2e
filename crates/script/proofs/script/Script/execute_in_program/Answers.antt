use Rattle.std.proofs.Common.{◌≡◌, ◌∙◌, false, Some, sym, subst}
use Rattle.std.specs.Prelude.{Ok, Err}
use Rattle.script_model.specs.Lexing.{words}
use Rattle.script_model.specs.Parsing.{is_end}
use Rattle.script_model.specs.State.{Script}
use Rattle.script_model.specs.Execution.{inside_program}
use Rattle.script.specs.Executes.{Executes}
use Rattle.script.specs.Kept.{open_program, script_of}
use Rattle.script.specs.declared.block.Block.TheVariants as blocks
use Rattle.script.proofs.ProgramLemmas.{program_line}
use Rattle.script.proofs.script.Script.execute_in_program.Goals as goal

pub returns-in-Ok-clause-executed : goal.returns-in-Ok-clause-executed
returns-in-Ok-clause-executed g c =
    let other : is_end (words c.args.bytes.now) ≡ false = sym c.is_end.ensures ∙ c.if-is_end.false in
    let old : Script = script_of c.self.inside.session c.self.inside.block c.self.inside.line in
    let next : Script = script_of c.self.inside.session (Some (blocks.Program c.add.new.self)) c.self.inside.line in
    let told = program_line c.args.bytes.now c.args.text.now.items (open_program c.args.begun) old next (Ok c.in-Ok.field-0) other (c.in-Ok.ensures.answer old) in
    subst (λ (s : Script). Executes (inside_program c.args.bytes.now (open_program c.args.begun) s) (Ok c.in-Ok.field-0) c.args.text.now.items c.args.text.now.items next) c.self.view_is told

pub returns-in-Err-clause-executed : goal.returns-in-Err-clause-executed
returns-in-Err-clause-executed g c =
    let other : is_end (words c.args.bytes.now) ≡ false = sym c.is_end.ensures ∙ c.if-is_end.false in
    program_line c.args.bytes.now c.args.text.now.items (open_program c.args.begun) c.args.self.now c.args.self.now (Err c.in-Err.error) other (c.in-Err.ensures.answer c.args.self.now)
