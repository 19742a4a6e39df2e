-- What the code answers for a line, against what the definitions say of it.
use Rattle.std.specs.Prelude.{◌≡◌, ℕ, List, [], ◌++◌, Option, Some, None, Result, Ok, Err, ⊤}
use Rattle.std.specs.List.{flat_map}
use Rattle.map_model.specs.declared.listed_edge.ListedEdge.{ListedEdge}
use Rattle.script_model.specs.declared.line_fault.LineFault.{LineFault}
use Rattle.script_model.specs.declared.line_fault.LineFault.TheVariants as line_faults
use Rattle.script_model.specs.State.{Script}
use Rattle.session_model.specs.Responses.{Response}
use Rattle.script_model.specs.Execution.{Execution, Says, Stops, execution, execution_of, statement_execution}
use Rattle.script.specs.Said.{Saying, Nothing, NoStatement, Makes}
use Rattle.script_model.specs.Script.{next_line}
use Rattle.script_model.specs.Texts.{fault_text, edge_text}
use Rattle.session.specs.Performs.{IsOfStore}
use Rattle.session.specs.declared.error.CommandError.{CommandError}
use Rattle.session.specs.declared.error.CommandError.TheVariants as command_errors
use Rattle.script.specs.declared.error.LineError.{LineError}
use Rattle.script.specs.declared.error.LineError.TheVariants as errors
use Rattle.script.specs.declared.error.ScriptError.{ScriptError}
use Rattle.script.specs.declared.error.ScriptError.TheVariants as script_errors
use Rattle.script.specs.declared.script.Step.{Step}
use Rattle.script.specs.declared.script.Step.TheVariants as steps

-- a command's error as a line's
abbrev pub line_error_of : CommandError → LineError
line_error_of (command_errors.Fault fault) = errors.Fault (line_faults.Command fault)
line_error_of command_errors.OutOfMemory = errors.OutOfMemory
line_error_of command_errors.WorkerRefused = errors.WorkerRefused
line_error_of command_errors.Store = errors.Store

-- a line whose answer only the store gives
abbrev pub AsksStore : Execution → Type 0
AsksStore x = (response : Response) × (s : Script) × IsOfStore response × (x ≡ execution_of response s)

-- a fault adds no text. Where the store did not answer as it should, the line is one that it is asked for. After another error
-- nothing is said.
abbrev pub Fails : Execution → LineError → (old new : List ℕ) → Type 0
Fails x (errors.Fault fault) old new = (new ≡ old) × (x ≡ Stops fault)
Fails x errors.OutOfMemory old new = ⊤
Fails x errors.WorkerRefused old new = ⊤
Fails x errors.Store old new = AsksStore x

-- a line that was executed adds its text
abbrev pub Executes : Execution → Result (Unit {0}) LineError → (old new : List ℕ) → Script → Type 0
Executes x (Ok _) old new s = (text : List ℕ) × (new ≡ old ++ text) × (x ≡ Says text s)
Executes x (Err e) old new s = Fails x e old new

-- the same, where some edges may be left whose lines still have to be written
abbrev pub Prints : Execution → Result (Option (List ListedEdge)) LineError → (old new : List ℕ) → Script → Type 0
Prints x (Ok None) old new s = (text : List ℕ) × (new ≡ old ++ text) × (x ≡ Says text s)
Prints x (Ok (Some edges)) old new s =
    (text : List ℕ) × (new ≡ old ++ text) × (x ≡ Says (text ++ flat_map edge_text edges) s)
Prints x (Err e) old new s = Fails x e old new

-- no edges are left
abbrev pub whole_of : Result (Unit {0}) LineError → Result (Option (List ListedEdge)) LineError
whole_of (Ok _) = Ok None
whole_of (Err e) = Err e

-- the next line of a script: it is executed, but for the lines of edges that are left, and the line after it is next;
-- or its fault is written
abbrev pub Steps : Result Step ScriptError → List ℕ → (old new : Script) → (text said : List ℕ) → Type 0
Steps (Ok steps.Executed) bytes old new text said =
    (added : List ℕ) × (behind : Script) × (said ≡ text ++ added) × (execution old bytes ≡ Says added behind) × (new ≡ next_line old.line behind)
Steps (Ok (steps.Lists edges)) bytes old new text said =
    (added : List ℕ) × (behind : Script) × (said ≡ text ++ added) × (execution old bytes ≡ Says (added ++ flat_map edge_text edges) behind) × (new ≡ next_line old.line behind)
Steps (Ok steps.Stopped) bytes old new text said =
    (fault : LineFault) × (said ≡ text ++ fault_text fault old.line) × (execution old bytes ≡ Stops fault)
Steps (Err e) bytes old new text said = ⊤

-- what holds where a script cannot go on for its store
abbrev pub OnStore : {A : Type 0} → Result A ScriptError → Type 0 → Type 0
OnStore (Err script_errors.Store) holds = holds
OnStore result holds = ⊤

-- what a line outside blocks does, by what it says
abbrev pub line_of : Saying → Script → Execution
line_of Nothing s = Says [] s
line_of NoStatement s = Stops line_faults.Words
line_of (Makes x) s = statement_execution x s
