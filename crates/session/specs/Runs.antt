-- A map over edges as an answer.
use Rattle.std.specs.Prelude.{◌≡◌, List, ℕ, Result, Ok, Err}
use Rattle.edge_map.specs.declared.errors.MapError.{MapError}
use Rattle.edge_map.specs.declared.errors.MapError.TheVariants as map
use Rattle.edge_fold.specs.declared.outcome.MapOutcome.{MapOutcome}
use Rattle.session_model.specs.Commands.{EdgesMapped}
use Rattle.session_model.specs.declared.fault.Fault.TheVariants as faults
use Rattle.session.specs.declared.answer.Answer.{Answer as GivenAnswer}
use Rattle.session.specs.declared.error.CommandError.{CommandError}
use Rattle.session.specs.declared.error.CommandError.TheVariants as errors
use Rattle.session.specs.Kept.{answer_of}

abbrev pub map_error_of : MapError → CommandError
map_error_of map.ArgumentLength = errors.Fault faults.ArgumentLength
map_error_of map.Frontier = errors.Fault faults.Frontier
map_error_of map.OutOfMemory = errors.OutOfMemory
map_error_of map.WorkerRefused = errors.WorkerRefused

-- what a map gave, with the names of its program and its pin; or why it gave nothing
abbrev pub IsAnswerOf : (program pin : List ℕ) → Result MapOutcome MapError → Result GivenAnswer CommandError → Type 0
IsAnswerOf program pin (Ok out) (Ok answer) = answer_of answer ≡ EdgesMapped program pin out.edges out.total out.rows.items
IsAnswerOf program pin (Ok out) (Err e) = ⊥
IsAnswerOf program pin (Err want) (Ok answer) = ⊥
IsAnswerOf program pin (Err want) (Err e) = e ≡ map_error_of want
