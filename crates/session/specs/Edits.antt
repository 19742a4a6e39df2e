-- Edits that are added to those of a batch.
use Rattle.std.specs.Prelude.{◌≡◌, List, [], ◌∷◌, ◌++◌, Option, Some, None, Result, Ok, Err}
use Rattle.past_model.specs.declared.edit.Edit.{Edit}
use Rattle.past_model.specs.declared.edit.Edit.TheVariants as edits
use Rattle.session_model.specs.declared.fault.Fault.{Fault}
use Rattle.session.specs.declared.batches.GivenEdit.{GivenEdit}
use Rattle.session.specs.declared.batches.GivenEdit.TheVariants as given
use Rattle.session.specs.declared.error.CommandError.{CommandError}
use Rattle.session.specs.declared.error.CommandError.TheVariants as errors

abbrev pub edit_of : GivenEdit → Edit
edit_of (given.Insert source target) = edits.Insert source target
edit_of (given.Remove source target) = edits.Remove source target

-- the edit stands after the others, or the fault is reported and they are as they were
abbrev pub AddsEdit : Option Fault → Edit → (old new : List Edit) → Result (Unit {0}) CommandError → Type 0
AddsEdit fault e old new (Ok _) = (fault ≡ None) × (new ≡ old ++ e ∷ [])
AddsEdit fault e old new (Err (errors.Fault told)) = (fault ≡ Some told) × (new ≡ old)
AddsEdit fault e old new (Err errors.OutOfMemory) = new ≡ old
AddsEdit fault e old new (Err errors.WorkerRefused) = ⊥
AddsEdit fault e old new (Err errors.Store) = ⊥
