-- A line of a script whose answer only the store gives, and how the bytes that are read come to it.
use Rattle.std.specs.Prelude.{◌≡◌, ℕ, List, [], ◌∷◌, ◌++◌, Option, Result, Err, ⊤}
use Rattle.std.specs.Io.KnownBytes.{Consumes}
use Rattle.script_model.specs.State.{Script}
use Rattle.script_model.specs.Execution.{execution}
use Rattle.script.specs.Executes.{AsksStore}
use Rattle.service.specs.declared.serve_error.ServeError.{ServeError}
use Rattle.service.specs.declared.serve_error.ServeError.TheVariants as errors
use Rattle.service.specs.Served.{Served, IsOneLine}
use Rattle.service.specs.Stand.{Stand}
use Rattle.service.specs.Rounds.{IsServed}

-- a line's end, or nothing
abbrev pub BeginsWithEnd : List ℕ → Type 0
BeginsWithEnd [] = ⊤
BeginsWithEnd (b ∷ bytes) = b ≡ 10

-- the bytes read mean what was said so far and then what the bytes that are left mean to a script, and their first line
-- is one whose answer only the store gives
pub record HasAsked (read : List ℕ) : Type 0 where
  pub said : List ℕ
  pub script : Script
  pub line : List ℕ
  pub behind : List ℕ
  pub served : Served read said script (line ++ behind)
  pub one : IsOneLine line
  pub ended : BeginsWithEnd behind
  pub asks : AsksStore (execution script line)

-- where these bytes are left, what was read has come to such a line
abbrev pub Asks : Script → List ℕ → Type 0
Asks s bytes = (read said : List ℕ) → Served read said s bytes → HasAsked read

-- an input gave some bytes, and these have come to such a line
abbrev pub AskedBy : (had has : Option (List ℕ)) → Type 0
AskedBy had has = (read : List ℕ) × Consumes had has read × HasAsked read

-- so they have where what was read before is served
abbrev pub AsksBy : (was has kept : Option (List ℕ)) → Stand → Type 0
AsksBy was has kept s = (had held : Option (List ℕ)) → IsServed had was held kept s → AskedBy had has

-- what holds where a script was not served to its end for its store
abbrev pub OnStore : {A : Type 0} → Result A ServeError → Type 0 → Type 0
OnStore (Err errors.Store) holds = holds
OnStore result holds = ⊤

-- what writes alone asks no store
abbrev pub IsNoStore : {A : Type 0} → Result A ServeError → Type 0
IsNoStore (Err errors.Store) = ⊥
IsNoStore result = ⊤
