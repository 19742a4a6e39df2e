-- A script that is read and written in parts, against its meaning.
use Rattle.std.specs.Prelude.{◌≡◌, ◌≤◌, ℕ, length, List, [], ◌++◌, Option, Some, None, Result, Ok, Err, ⊤}
use Rattle.std.specs.Io.KnownBytes.{Consumes, Appends}
use Rattle.script.specs.declared.error.ScriptError.{ScriptError}
use Rattle.script.specs.declared.error.ScriptError.TheVariants as script_errors
use Rattle.service.specs.declared.serve_error.ServeError.{ServeError}
use Rattle.service.specs.declared.serve_error.ServeError.TheVariants as errors
use Rattle.script_model.specs.declared.ending.Ending.{Ending}
use Rattle.script_model.specs.declared.ending.Ending.TheVariants as endings
use Rattle.script_model.specs.declared.limits.TheConstants.{MOST_LINE_BYTES}
use Rattle.service.specs.Stand.{Stand}
use Rattle.script_model.specs.Script.{after_text, end_meaning, meaning}
use Rattle.service.specs.Ends.{TakesFront}
use Rattle.service.specs.Served.{Served, Settled, IsOneLine}
use Rattle.service.specs.Serves.{Serves}

abbrev pub serve_error_of : ScriptError → ServeError
serve_error_of script_errors.OutOfMemory = errors.OutOfMemory
serve_error_of script_errors.WorkerRefused = errors.WorkerRefused
serve_error_of script_errors.Store = errors.Store

-- what executes and writes does not read
abbrev pub IsNoRead : {A : Type 0} → Result A ServeError → Type 0
IsNoRead (Err errors.Read) = ⊥
IsNoRead r = ⊤

-- less than a line is left, and no more bytes than a line may have
abbrev pub HasPart : Stand → Type 0
HasPart s = IsOneLine s.pending × (length s.pending ≤ MOST_LINE_BYTES)

-- what some bytes say that are read is written, but for what those say that are left
abbrev pub IsWritten : (read : List ℕ) → (held holds : Option (List ℕ)) → Stand → Type 0
IsWritten read held holds s = (said : List ℕ) × Appends held holds said × Served read said s.script s.pending

-- so far, what was read is served, and all that it says is written
abbrev pub IsServed : (had has held holds : Option (List ℕ)) → Stand → Type 0
IsServed had has held holds s = (read : List ℕ) × Consumes had has read × IsWritten read held holds s

-- all whole lines are executed and what they say is written, or the script is settled; or what is written begins what
-- every script writes that begins with the bytes read
abbrev pub Advances : Result (Option Ending) ServeError → (kept holds : Option (List ℕ)) → (old new : Stand) → Type 0
Advances (Ok None) kept holds old new =
    HasPart new × (new.text ≡ [])
    × ((read : List ℕ) (held : Option (List ℕ)) → IsWritten read held kept old → IsWritten read held holds new)
Advances (Ok (Some ending)) kept holds old new =
    (ending ≡ endings.Fault)
    × ((read : List ℕ) (held : Option (List ℕ)) → IsWritten read held kept old → (said : List ℕ) × Appends held holds said × Settled read said)
Advances (Err e) kept holds old new =
    (read : List ℕ) (held : Option (List ℕ)) → IsWritten read held kept old
    → (rest : List ℕ) → TakesFront held holds (meaning (read ++ rest)).text

-- all lines that were read are executed, and what they say is written but for the text
abbrev pub IsLast : (read : List ℕ) → (held holds : Option (List ℕ)) → Stand → Type 0
IsLast read held holds s =
    (said : List ℕ) × Appends held holds said × (meaning read ≡ after_text (said ++ s.text) (end_meaning s.script.block))

-- the script ends, and what the bytes read mean by themselves is written, or a beginning of it
abbrev pub Ends : Result Ending ServeError → (kept holds : Option (List ℕ)) → (old : Stand) → Type 0
Ends (Ok ending) kept holds old =
    (read : List ℕ) (held : Option (List ℕ)) → IsLast read held kept old
    → (said : List ℕ) × Appends held holds said × (meaning read ≡ record { text = said; ending = ending })
Ends (Err e) kept holds old =
    (read : List ℕ) (held : Option (List ℕ)) → IsLast read held kept old → TakesFront held holds (meaning read).text

-- nothing more is read, and what the bytes read mean by themselves is written, or a beginning of it
abbrev pub Concludes : Result Ending ServeError → (kept holds : Option (List ℕ)) → (old : Stand) → Type 0
Concludes (Ok ending) kept holds old =
    (read : List ℕ) (held : Option (List ℕ)) → IsWritten read held kept old
    → (said : List ℕ) × Appends held holds said × (meaning read ≡ record { text = said; ending = ending })
Concludes (Err e) kept holds old =
    (read : List ℕ) (held : Option (List ℕ)) → IsWritten read held kept old → TakesFront held holds (meaning read).text

-- more is read, and what it leads to is written
abbrev pub Turns : Result (Option Ending) ServeError → (was has kept holds : Option (List ℕ)) → (old new : Stand) → Type 0
Turns (Ok None) was has kept holds old new =
    IsOneLine new.pending × (new.text ≡ [])
    × ((had held : Option (List ℕ)) → IsServed had was held kept old → IsServed had has held holds new)
Turns (Ok (Some ending)) was has kept holds old new =
    (had held : Option (List ℕ)) → IsServed had was held kept old → Serves (Ok ending) had has held holds
Turns (Err e) was has kept holds old new =
    (had held : Option (List ℕ)) → IsServed had was held kept old → Serves (Err e) had has held holds
