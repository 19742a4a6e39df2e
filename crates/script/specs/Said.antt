-- What the code's lines stand for, where numbers are cut at 2^64 - 1.
use Rattle.std.specs.Prelude.{ℕ, ◌-◌, ◌^◌, min, if◌then◌else◌, List, [], ◌∷◌, map, Option, Some, None}
use Rattle.bpf_image.specs.Program.{Program, without_table}
use Rattle.past_model.specs.declared.edit.Edit.{Edit}
use Rattle.past_model.specs.declared.edit.Edit.TheVariants.{Insert, Remove}
use Rattle.session_model.specs.Commands.{Asked, Command, MakeGraph, PublishBatch, LoadProgram, LoadImage, TakePin, RunProgram, ReportHome, Rebase, ListEdges, SetColumn, ShowValues, PullRows, WriteColumn}
use Rattle.session.specs.Kept.{each_now}
use Rattle.script_model.specs.Parsing.{Statement, Asks, BeginBatch, BeginProgram, statement, BatchLine, OneEdit, EndBatch}
use Rattle.script_model.specs.Execution.{is_comment}
use Rattle.script.specs.declared.reading.line.BatchLine.{BatchLine as CodeBatchLine}
use Rattle.script.specs.declared.reading.line.BatchLine.TheVariants as batch_lines
use Rattle.script.specs.declared.reading.line.Asking.{Asking}
use Rattle.script.specs.declared.reading.line.Statement.{Statement as CodeStatement}
use Rattle.script.specs.declared.reading.line.Statement.TheVariants as statements
use Rattle.script.specs.declared.reading.line.Line.{Line}
use Rattle.script.specs.declared.reading.line.Line.TheVariants as lines

abbrev pub cut_number : ℕ → ℕ
cut_number n = min n (2 ^ 64 - 1)

abbrev pub cut_edit : Edit → Edit
cut_edit (Insert u v) = Insert (cut_number u) (cut_number v)
cut_edit (Remove u v) = Remove (cut_number u) (cut_number v)

abbrev pub cut_batch_line : BatchLine → BatchLine
cut_batch_line (OneEdit e) = OneEdit (cut_edit e)
cut_batch_line EndBatch = EndBatch

abbrev pub cut_program : Program → Program
cut_program p = record { code = p.code; record_length = cut_number p.record_length; table = p.table }

abbrev pub cut_asked : Asked → Asked
cut_asked a = record { program = a.program; pin = a.pin; reduction = a.reduction; argument = a.argument; columns = a.columns; frontier = map cut_number a.frontier }

-- the numbers of a command that stand on its line
abbrev pub cut_command : Command → Command
cut_command (MakeGraph n) = MakeGraph (cut_number n)
cut_command (PublishBatch feed edits) = PublishBatch feed edits
cut_command (LoadProgram name p) = LoadProgram name (cut_program p)
cut_command (LoadImage name bytes) = LoadImage name bytes
cut_command (TakePin name) = TakePin name
cut_command (RunProgram program pin reduction argument frontier) =
    RunProgram program pin reduction argument (map cut_number frontier)
cut_command (ReportHome v) = ReportHome (cut_number v)
cut_command Rebase = Rebase
cut_command (ListEdges program pin argument) = ListEdges program pin argument
cut_command (SetColumn name first numbers) = SetColumn name (cut_number first) numbers
cut_command (ShowValues name frontier) = ShowValues name (map cut_number frontier)
cut_command (PullRows asked) = PullRows (cut_asked asked)
cut_command (WriteColumn way asked into) = WriteColumn way (cut_asked asked) into

abbrev pub cut_statement : Statement → Statement
cut_statement (Asks c) = Asks (cut_command c)
cut_statement (BeginBatch feed) = BeginBatch feed
cut_statement (BeginProgram name record_length) = BeginProgram name (cut_number record_length)

-- the line of a batch that the code's stands for
abbrev pub said_batch_line : CodeBatchLine → BatchLine
said_batch_line (batch_lines.Insert u v) = OneEdit (Insert u v)
said_batch_line (batch_lines.Remove u v) = OneEdit (Remove u v)
said_batch_line batch_lines.End = EndBatch

abbrev pub said_asked : Asking → Asked
said_asked a = record { program = a.program.now; pin = a.pin.now; reduction = a.reduction; argument = a.argument.items; columns = each_now a.columns.items; frontier = a.frontier.items }

abbrev pub said_statement : CodeStatement → Statement
said_statement (statements.Graph n) = Asks (MakeGraph n)
said_statement (statements.Batch feed) = BeginBatch feed
said_statement (statements.Code name record_length code) =
    Asks (LoadProgram name.now (without_table code.items record_length))
said_statement (statements.Image name bytes) = Asks (LoadImage name.now bytes.items)
said_statement (statements.Program name record_length) = BeginProgram name.now record_length
said_statement (statements.Pin name) = Asks (TakePin name.now)
said_statement (statements.Run program pin reduction argument frontier) =
    Asks (RunProgram program.now pin.now reduction argument.items frontier.items)
said_statement (statements.Home v) = Asks (ReportHome v)
said_statement statements.Rebase = Asks Rebase
said_statement (statements.List program pin argument) = Asks (ListEdges program.now pin.now argument.items)
said_statement (statements.Column name first numbers) = Asks (SetColumn name.now first numbers.items)
said_statement (statements.Values name frontier) = Asks (ShowValues name.now frontier.items)
said_statement (statements.PullRows asking) = Asks (PullRows (said_asked asking))
said_statement (statements.WriteColumn way asking into) = Asks (WriteColumn way (said_asked asking) into.now)

-- what a line outside blocks says
pub data Saying : Type 0 where
  Nothing : Saying
  NoStatement : Saying
  Makes : Statement → Saying

abbrev pub found_statement : Option Statement → Saying
found_statement None = NoStatement
found_statement (Some x) = Makes x

abbrev pub saying_of : List (List ℕ) → Saying
saying_of [] = Nothing
saying_of (word ∷ operands) = if is_comment word then Nothing else found_statement (statement word operands)

abbrev pub cut_saying : Saying → Saying
cut_saying Nothing = Nothing
cut_saying NoStatement = NoStatement
cut_saying (Makes x) = Makes (cut_statement x)

abbrev pub said_line : Line → Saying
said_line lines.Skipped = Nothing
said_line lines.Unknown = NoStatement
said_line (lines.Statement x) = Makes (said_statement x)
