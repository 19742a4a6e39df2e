-- What commands that lend columns find, and what they write.
use Rattle.std.specs.Borrow.{Bor}
use Rattle.std.specs.Prelude.{◌≡◌, ℕ, List, [], ◌∷◌, length, Option, Some, None, Result, Ok, Err, ⊤}
use Rattle.bpf_image.specs.Program.{Program}
use Rattle.past_model.specs.Past.{Past, graph_of}
use Rattle.graph_model.specs.Graph.{Graph}
use Rattle.map_model.specs.declared.reduction.Reduction.{Reduction}
use Rattle.map_model.specs.EdgeMap.{Inputs, reduction_of_numbers}
use Rattle.map_model.specs.Pushes.{changed}
use Rattle.session_model.specs.Session.{KeptColumn, Session, columns_named, stored}
use Rattle.session_model.specs.Commands.{Asked, ColumnWritten}
use Rattle.session_model.specs.declared.fault.Fault.TheVariants as faults
use Rattle.session_model.specs.Faults.{lent_fault}
use Rattle.session_model.specs.Responses.{Response, Answers, Fails, response_with, inputs_of, frontier_of, exit_numbers, column_after, write_response, placed}
use Rattle.session.specs.declared.error.CommandError.{CommandError}
use Rattle.session.specs.declared.error.CommandError.TheVariants as errors
use Rattle.session.specs.declared.lending.Lent.{Lent}
use Rattle.session.specs.declared.lending.Written.{Written}
use Rattle.session_model.specs.declared.way.Way.{Way}
use Rattle.session_model.specs.declared.way.Way.TheVariants as ways
use Rattle.edge_map.specs.declared.job.Wanted.{Wanted}
use Rattle.edge_map.specs.declared.job.Wanted.TheVariants as wanted
use Rattle.session.specs.Kept.{each_now}

-- how a command goes on with a program, the version of a pin, and columns
abbrev pub GoesOn : Type 0
GoesOn = Program → Past → List (List ℕ) → Response

-- how a command goes on with a program, a pin and columns, or its fault if one of them is unknown
abbrev pub lends : Asked → Option Program → Option Past → List KeptColumn → GoesOn → Response
lends asked found pinned kept go =
    response_with found faults.Name (λ p.
    response_with pinned faults.Name (λ past.
    response_with (columns_named asked.columns kept) faults.Name (λ columns. go p past columns)))

-- the command goes on with what was found, whatever it is; or it has the fault
abbrev pub IsLent : (GoesOn → Response) → Result Lent CommandError → Type 0
IsLent response (Ok lent) = (go : GoesOn) → response go ≡ go lent.program.now lent.pin.now.past (each_now lent.columns.items)
IsLent response (Err (errors.Fault fault)) = (go : GoesOn) → response go ≡ Fails fault
IsLent response (Err errors.OutOfMemory) = ⊤
IsLent response (Err errors.WorkerRefused) = ⊥
IsLent response (Err errors.Store) = ⊥

-- count, total, numbers and changes are those of a command that writes a column
pub record IsLeft (way : Way) (p : Program) (g : Graph) (r : Reduction) (inputs : Inputs) (frontier numbers : List ℕ) (w : Written) : Type 0 where
  pub count : w.count ≡ length (exit_numbers way p g inputs frontier)
  pub total : w.total ≡ reduction_of_numbers r (exit_numbers way p g inputs frontier)
  pub after : w.numbers.items ≡ column_after way p g r inputs frontier numbers
  pub changes : w.changed ≡ changed numbers w.numbers.items

-- what is wanted of the runs of a command that writes a column
abbrev pub wanted_of : Way → Wanted
wanted_of ways.Pull = wanted.Values
wanted_of ways.Push = wanted.Pushed
wanted_of ways.Each = wanted.Own

-- a column after what a job has found: each vertex of the frontier has got its number, or all have
abbrev pub after_job : Way → (frontier found numbers : List ℕ) → List ℕ
after_job ways.Pull frontier found numbers = placed frontier found numbers
after_job ways.Push frontier found numbers = found
after_job ways.Each frontier found numbers = placed frontier found numbers

-- what was written in place of a column
pub record IsWritten (way : Way) (asked : Asked) (p : Program) (past : Past) (columns : List (List ℕ)) (numbers : List ℕ) (w : Written) : Type 0 where
  pub fits : lent_fault asked p past.vertex_count columns (numbers ∷ []) ≡ None
  pub left : IsLeft way p (graph_of past) asked.reduction (inputs_of asked.argument columns) (frontier_of asked.frontier (graph_of past)) numbers w

-- the column is written, or argument, frontier and columns have a fault
abbrev pub Writes : Way → Asked → Program → Past → (columns : List (List ℕ)) → (numbers : List ℕ) → Result Written CommandError → Type 0
Writes way asked p past columns numbers (Ok w) = IsWritten way asked p past columns numbers w
Writes way asked p past columns numbers (Err (errors.Fault fault)) = lent_fault asked p past.vertex_count columns (numbers ∷ []) ≡ Some fault
Writes way asked p past columns numbers (Err errors.OutOfMemory) = ⊤
Writes way asked p past columns numbers (Err errors.WorkerRefused) = ⊥
Writes way asked p past columns numbers (Err errors.Store) = ⊥

-- the column that a command writes, if it writes one
abbrev pub into_list : Option (Bor (List ℕ)) → List (List ℕ)
into_list None = []
into_list (Some numbers) = numbers.now ∷ []

-- what a command writes in place of a column of a session, or its fault
abbrev pub WritesInto : Way → Asked → List ℕ → Session → Result Written CommandError → Type 0
WritesInto way asked into s (Ok w) =
    write_response way asked into s
    ≡ Answers (ColumnWritten way asked.program asked.pin w.count w.total w.changed) (record s { columns = stored into w.numbers.items s.columns })
WritesInto way asked into s (Err (errors.Fault fault)) = write_response way asked into s ≡ Fails fault
WritesInto way asked into s (Err errors.OutOfMemory) = ⊤
WritesInto way asked into s (Err errors.WorkerRefused) = ⊥
WritesInto way asked into s (Err errors.Store) = ⊥
