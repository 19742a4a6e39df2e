-- What serving a script comes to: the promise of `serve`.
use Rattle.std.specs.Prelude.{◌≡◌, ◌⊎◌, ℕ, ◌+◌, ◌%◌, ◌^◌, List, ◌++◌, Option, Result, Ok, Err}
use Rattle.std.specs.Io.KnownBytes.{Consumes, Appends, IsAtEnd}
use Rattle.script_model.specs.declared.ending.Ending.{Ending}
use Rattle.script_model.specs.declared.ending.Ending.TheVariants as endings
use Rattle.script_model.specs.Script.{meaning}
use Rattle.service.specs.declared.serve_error.ServeError.{ServeError}
use Rattle.service.specs.declared.serve_error.ServeError.TheVariants as errors
use Rattle.service.specs.Ends.{TakesFront}
use Rattle.service.specs.Served.{Settled}

-- a read failed just where the answer says so, and then it was one
abbrev pub CountsReads : {A : Type 0} → Result A ServeError → ℕ → ℕ → Type 0
CountsReads (Err errors.Read) old new = new ≡ (old + 1) % 2 ^ 64
CountsReads r old new = new ≡ old

-- a write failed just where the answer says so, and then it was one
abbrev pub CountsWrites : {A : Type 0} → Result A ServeError → ℕ → ℕ → Type 0
CountsWrites (Err errors.Write) old new = new ≡ (old + 1) % 2 ^ 64
CountsWrites r old new = new ≡ old

-- what the bytes read mean. A script is complete only at the end of the input; one with a fault is
-- settled, however it goes on, if more may come.
abbrev pub IsMeant : List ℕ → List ℕ → Ending → Option (List ℕ) → Type 0
IsMeant read said endings.Complete left =
    (meaning read ≡ record { text = said; ending = endings.Complete }) × IsAtEnd left
IsMeant read said endings.Fault left =
    (meaning read ≡ record { text = said; ending = endings.Fault }) × (IsAtEnd left ⊎ Settled read said)

-- what was written begins what every script writes that begins with the bytes read, or, where the input
-- is at its end, what they write by themselves
abbrev pub Begins : List ℕ → Option (List ℕ) → Option (List ℕ) → Option (List ℕ) → Type 0
Begins read left held holds =
    ((rest : List ℕ) → TakesFront held holds (meaning (read ++ rest)).text)
    ⊎ (IsAtEnd left × TakesFront held holds (meaning read).text)

-- a script is served: what it means is written; after an error, a beginning of it
abbrev pub Serves : Result Ending ServeError → Option (List ℕ) → Option (List ℕ) → Option (List ℕ) → Option (List ℕ) → Type 0
Serves (Ok ending) had has held holds =
    (read : List ℕ) × Consumes had has read × (said : List ℕ) × Appends held holds said × IsMeant read said ending has
Serves (Err e) had has held holds = (read : List ℕ) × Consumes had has read × Begins read has held holds
