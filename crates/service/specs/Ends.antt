-- What an end of the service shows: its bytes, where they are known, and how often it failed.
use Rattle.std.specs.Prelude.{◌≡◌, ℕ, ◌+◌, ◌<◌, ◌≤◌, ◌^◌, ◌%◌, List, ◌++◌, length, Option, Result, Ok, Err, ⊤}
use Rattle.std.specs.Io.KnownBytes.{Appends}

-- the count of failures rises by one with each, and a call that succeeds leaves it
abbrev pub CountsFailure : {A E : Type 0} → Result A E → ℕ → ℕ → Type 0
CountsFailure (Ok x) old new = new ≡ old
CountsFailure (Err e) old new = new ≡ (old + 1) % 2 ^ 64

-- a write takes no more bytes than there are, and at least one where there are any
abbrev pub WritesSome : {E : Type 0} → Result ℕ E → List ℕ → Type 0
WritesSome (Ok n) bytes = (n ≤ length bytes) × (0 < length bytes → 0 < n)
WritesSome (Err e) bytes = ⊤

-- an output took some bytes from the front
abbrev pub TakesFront : Option (List ℕ) → Option (List ℕ) → List ℕ → Type 0
TakesFront old new bytes = (front : List ℕ) × (rest : List ℕ) × (bytes ≡ front ++ rest) × Appends old new front
