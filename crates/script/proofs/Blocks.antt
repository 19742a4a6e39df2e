-- What a line inside a program does hangs on the program that it is given, and not on what the script says is open.
use Rattle.std.proofs.Common.{◌≡◌, ℕ, List, Option, Some, refl, inl, inr, ap, ◌∙◌}
use Rattle.std.specs.Prelude.{Result, Ok, Err}
use Rattle.std.proofs.lemmas.Bool.{cases_Bool}
use Rattle.bpf_image.specs.Program.{without_table}
use Rattle.bpf_asm.specs.declared.errors.AssembleError.{AssembleError}
use Rattle.bpf_asm.specs.Assembly.{assembly}
use Rattle.session_model.specs.Commands.{LoadProgram}
use Rattle.session_model.specs.Responses.{Response, Answers, Fails, response}
use Rattle.script_model.specs.Lexing.{words}
use Rattle.script_model.specs.State.{OpenProgram, Block, ProgramBlock, Script}
use Rattle.script_model.specs.Parsing.{is_end}
use Rattle.script_model.specs.Execution.{execution_of, after_assembly, inside_program, block_execution}

execution_at : (r : Response) (s : Script) (b : Option Block) → execution_of r (record s { block = b }) ≡ execution_of r s
execution_at (Answers answer session) s b = refl
execution_at (Fails fault) s b = refl

assembly_at : (r : Result (List ℕ) AssembleError) (begun : OpenProgram) (s : Script) (b : Option Block) → after_assembly r begun (record s { block = b }) ≡ after_assembly r begun s
assembly_at (Ok code) begun s b =
    execution_at (response (LoadProgram begun.name (without_table code begun.record_length)) s.session) s b
assembly_at (Err e) begun s b = refl

program_at : (bytes : List ℕ) (begun : OpenProgram) (s : Script) (b : Option Block) → inside_program bytes begun (record s { block = b }) ≡ inside_program bytes begun s
program_at bytes begun s b =
    elim (cases_Bool (is_end (words bytes))) [
      | inl is ↦ rw is (assembly_at (assembly begun.text) begun s b)
      | inr other ↦ rw other refl
    ]

pub in_program : (bytes : List ℕ) (begun : OpenProgram) (s t : Script) (b : Option Block) → s ≡ t → t.block ≡ Some (ProgramBlock begun) → inside_program bytes begun (record s { block = b }) ≡ block_execution t.block bytes t
in_program bytes begun s t b same is_open =
    let second : inside_program bytes begun s ≡ inside_program bytes begun t = ap (λ (u : Script). inside_program bytes begun u) same in
    program_at bytes begun s b ∙ second ∙ rw is_open refl
