use Rattle.std.proofs.Common.{◌≡◌, Option, None, Some, sym, ap, subst, ◌∙◌}
use Rattle.std.specs.Prelude.{option_map}
use Rattle.session_model.specs.Faults.{HasFewVertices}
use Rattle.script_model.specs.Lexing.{words}
use Rattle.script_model.specs.State.{Script, Block, BatchBlock, ProgramBlock}
use Rattle.script_model.specs.Execution.{Execution, block_execution, outside}
use Rattle.script.specs.Said.{Saying, saying_of, cut_saying, said_line}
use Rattle.script.specs.declared.block.Block.{Block as BegunBlock}
use Rattle.script.specs.Executes.{Prints, line_of}
use Rattle.script.specs.Kept.{block_of, open_batch, open_program, script_of}
use Rattle.script.proofs.Blocks.{in_program}
use Rattle.script.proofs.Cuts.{outside-cut}
use Rattle.script.proofs.script.Script.execute_outside_batch.Goals as goal

pub returns-in_ok-said-in-None-clause-executed : goal.returns-in_ok-said-in-None-clause-executed
returns-in_ok-said-in-None-clause-executed g c =
    let inner : None ≡ c.self.inside.block = c.in-None.ensures.value in
    let none : c.args.self.now.block ≡ None = ap (λ (s : Script). s.block) (sym c.self.view_is) ∙ ap (λ (b : Option BegunBlock). option_map block_of b) (sym inner) in
    let same : script_of c.self.inside.session c.take.new.self c.self.inside.line ≡ c.args.self.now = ap (λ (b : Option BegunBlock). script_of c.self.inside.session b c.self.inside.line) (c.take.ensures.after ∙ inner) ∙ c.self.view_is in
    let told = subst (λ (s : Script). Prints (line_of (said_line c.in_ok-said-in-None.said) s) c.execute_outside.result c.args.text.now.items c.execute_outside.new.text.items c.execute_outside.new.self) same c.execute_outside.ensures.executed in
    let few = subst (λ (s : Script). HasFewVertices s.session) same c.execute_outside.ensures.few in
    let cut : line_of (said_line c.in_ok-said-in-None.said) c.args.self.now ≡ line_of (cut_saying (saying_of (words c.args.bytes.now))) c.args.self.now = ap (λ (x : Saying). line_of x c.args.self.now) c.in_ok-said-in-None.ensures in
    let whole = outside-cut (words c.args.bytes.now) c.args.self.now few in
    let here : outside (words c.args.bytes.now) c.args.self.now ≡ block_execution c.args.self.now.block c.args.bytes.now c.args.self.now = ap (λ (b : Option Block). block_execution b c.args.bytes.now c.args.self.now) (sym none) in
    subst (λ (x : Execution). Prints x c.execute_outside.result c.args.text.now.items c.execute_outside.new.text.items c.execute_outside.new.self) (cut ∙ whole ∙ here) told

pub returns-in-Some-Program-clause-executed : goal.returns-in-Some-Program-clause-executed
returns-in-Some-Program-clause-executed g c =
    let old : Script = script_of c.self.inside.session c.self.inside.block c.self.inside.line in
    let is_open : c.args.self.now.block ≡ Some (ProgramBlock (open_program c.in-Some-Program.begun)) = ap (λ (s : Script). s.block) (sym c.self.view_is) ∙ ap (λ (b : Option BegunBlock). option_map block_of b) (sym c.in-Some-Program.ensures.value) ∙ ap (λ (b : BegunBlock). Some (block_of b)) c.in-Some-Program.field-0-is in
    let whole = in_program c.args.bytes.now (open_program c.in-Some-Program.begun) old c.args.self.now (option_map block_of c.take.new.self) c.self.view_is is_open in
    subst (λ (x : Execution). Prints x c.execute_in_program.result c.args.text.now.items c.execute_in_program.new.text.items c.execute_in_program.new.self) whole
    c.execute_in_program.ensures.executed

pub unreachable-requires : goal.unreachable-requires
unreachable-requires g c =
    let is_open : c.args.self.now.block ≡ Some (BatchBlock (open_batch c.in-Some-Batch.field-0-0)) = ap (λ (s : Script). s.block) (sym c.self.view_is) ∙ ap (λ (b : Option BegunBlock). option_map block_of b) (sym c.in-Some-Batch.ensures.value) ∙ ap (λ (b : BegunBlock). Some (block_of b)) c.in-Some-Batch.field-0-is in
    c.requires.no_batch (open_batch c.in-Some-Batch.field-0-0, is_open)
