-- What a line does to a script, and what is written for it.
use Rattle.std.specs.Prelude.{ℕ, ◌+◌, ◌==◌, not, nat_le, nat_lt, if◌then◌else◌, Bool, false, List, [], ◌∷◌, ◌++◌, length, Option, Some, None, Result, Ok, Err, is_some}
use Rattle.std.specs.List.{list_all}
use Rattle.bpf_image.specs.Program.{without_table}
use Rattle.past_model.specs.declared.edit.Edit.{Edit}
use Rattle.bpf_asm.specs.declared.errors.AssembleError.{AssembleError}
use Rattle.bpf_asm.specs.Assembly.{assembly}
use Rattle.session_model.specs.declared.fault.Fault.{Fault}
use Rattle.session_model.specs.declared.fault.Fault.TheVariants as faults
use Rattle.session_model.specs.Session.{Session}
use Rattle.session_model.specs.Commands.{PublishBatch, LoadProgram}
use Rattle.session_model.specs.Faults.{first_fault, edit_fault, program_fault}
use Rattle.session_model.specs.Responses.{Response, Answers, Fails, response}
use Rattle.script_model.specs.declared.limits.TheConstants.{MOST_LINE_BYTES, MOST_PROGRAM_LINES}
use Rattle.script_model.specs.declared.line_fault.LineFault.{LineFault}
use Rattle.script_model.specs.declared.line_fault.LineFault.TheVariants as line_faults
use Rattle.script_model.specs.Lexing.{is_plain, words}
use Rattle.script_model.specs.State.{OpenBatch, OpenProgram, Block, BatchBlock, ProgramBlock, Script}
use Rattle.script_model.specs.Parsing.{Statement, Asks, BeginBatch, BeginProgram, statement, BatchLine, OneEdit, EndBatch, batch_line, is_end}
use Rattle.script_model.specs.Texts.{newline, answer_text, assembler_text}

-- a line is executed, with what is written and the script after it, or it has a fault
pub data Execution : Type 0 where
  Says : (text : List ℕ) → Script → Execution
  Stops : LineFault → Execution

-- a fault of a command, or else this
abbrev pub unless_stopped : Option Fault → Execution → Execution
unless_stopped None execution = execution
unless_stopped (Some fault) execution = Stops (line_faults.Command fault)

-- goes on with what the words say, if they say anything
abbrev pub with_words : {A : Type 0} → Option A → (A → Execution) → Execution
with_words None go = Stops line_faults.Words
with_words (Some x) go = go x

-- the script with this session and without an open block
abbrev pub outside_blocks : Script → Session → Script
outside_blocks s session = record s { session = session; block = None }

-- the script with this block open
abbrev pub inside : Script → Block → Script
inside s block = record s { block = Some block }

-- what a session's response to a command comes to
abbrev pub execution_of : Response → Script → Execution
execution_of (Answers answer session) s = Says (answer_text answer) (outside_blocks s session)
execution_of (Fails fault) s = Stops (line_faults.Command fault)

-- ---- batches

-- a batch needs a graph
abbrev pub begin_batch : ℕ → Script → Execution
begin_batch feed s =
    unless_stopped (first_fault ((not (is_some s.session.past), faults.Order) ∷ []))
    (Says [] (inside s (BatchBlock (record { line = s.line; feed = feed; edits = [] }))))

abbrev pub one_edit : Edit → OpenBatch → Script → Execution
one_edit e begun s =
    unless_stopped (edit_fault e begun.edits s.session.past)
    (Says [] (inside s (BatchBlock (record begun { edits = begun.edits ++ e ∷ [] }))))

abbrev pub batch_step : BatchLine → OpenBatch → Script → Execution
batch_step (OneEdit e) begun s = one_edit e begun s
batch_step EndBatch begun s = execution_of (response (PublishBatch begun.feed begun.edits) s.session) s

-- a line inside a batch
abbrev pub inside_batch : List (List ℕ) → OpenBatch → Script → Execution
inside_batch ws begun s = with_words (batch_line ws) (λ parsed. batch_step parsed begun s)

-- ---- programs

abbrev pub begin_program : List ℕ → ℕ → Script → Execution
begin_program name record_length s =
    unless_stopped (program_fault name record_length s.session)
    (Says [] (inside s (ProgramBlock (record { line = s.line; name = name; record_length = record_length; lines = 0; text = [] }))))

-- a line for the assembler
abbrev pub one_line : List ℕ → OpenProgram → Script → Execution
one_line bytes begun s =
    unless_stopped (first_fault ((nat_le MOST_PROGRAM_LINES begun.lines, faults.TooMany) ∷ []))
    (Says [] (inside s (ProgramBlock (record begun { lines = begun.lines + 1; text = begun.text ++ (bytes ++ newline) }))))

-- what the assembler made of a program's lines
abbrev pub after_assembly : Result (List ℕ) AssembleError → OpenProgram → Script → Execution
after_assembly (Ok code) begun s =
    execution_of (response (LoadProgram begun.name (without_table code begun.record_length)) s.session) s
after_assembly (Err e) begun s = Says (assembler_text begun.name e) (outside_blocks s s.session)

abbrev pub end_program : OpenProgram → Script → Execution
end_program begun s = after_assembly (assembly begun.text) begun s

-- a line inside a program
abbrev pub inside_program : List ℕ → OpenProgram → Script → Execution
inside_program bytes begun s = if is_end (words bytes) then end_program begun s else one_line bytes begun s

-- ---- lines

abbrev pub statement_execution : Statement → Script → Execution
statement_execution (Asks command) s = execution_of (response command s.session) s
statement_execution (BeginBatch feed) s = begin_batch feed s
statement_execution (BeginProgram name record_length) s = begin_program name record_length s

-- a word that begins with `#`
abbrev pub is_comment : List ℕ → Bool
is_comment [] = false
is_comment (b ∷ bytes) = b == 35

abbrev pub outside : List (List ℕ) → Script → Execution
outside [] s = Says [] s
outside (word ∷ operands) s =
    if is_comment word then Says [] s else with_words (statement word operands) (λ parsed. statement_execution parsed s)

abbrev pub block_execution : Option Block → List ℕ → Script → Execution
block_execution None bytes s = outside (words bytes) s
block_execution (Some (BatchBlock begun)) bytes s = inside_batch (words bytes) begun s
block_execution (Some (ProgramBlock begun)) bytes s = inside_program bytes begun s

-- what the next line does; its length is tested before its bytes, and these before its words
unfoldable pub execution : Script → List ℕ → Execution
execution s bytes =
    if nat_lt MOST_LINE_BYTES (length bytes) then Stops line_faults.LongLine
    else (if not (list_all is_plain bytes) then Stops line_faults.Words else block_execution s.block bytes s)
