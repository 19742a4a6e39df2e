-- What the words of a command line ask for.
use Rattle.std.specs.Prelude.{◌≡◌, ◌≤◌, ◌⊎◌, ℕ, List, ◌∷◌, [], drop, map, codes, String, string_bytes, true}
use Rattle.std.specs.Str.Parse.{IsNumeral, digits_value}
use Rattle.std.specs.declared.alloc.Global.{Global}
use Rattle.clap.specs.Words.{App}
use Rattle.clap.specs.Simple.{on_top}
use Rattle.workers.specs.declared.limits.TheConstants.{MOST_WORKERS}

-- the texts of the words after the program's name
abbrev pub arguments : List (String Global) → List (List ℕ)
arguments words = drop 1 (map string_bytes words)

-- those words are `--workers` and decimal digits that write n
abbrev pub AsksFor : ℕ → List (String Global) → Type 0
AsksFor n words =
    (digits : List ℕ) × (arguments words ≡ codes "--workers" ∷ digits ∷ []) × IsNumeral 10 digits × (digits_value 10 digits ≡ n)

-- there are no such words, or they ask for 1 to 16 workers
abbrev pub AsksForAllowed : List (String Global) → Type 0
AsksForAllowed words = (arguments words ≡ []) ⊎ ((n : ℕ) × AsksFor n words × (1 ≤ n) × (n ≤ MOST_WORKERS))

-- a command that has a version to name
abbrev pub with_version : App → App
with_version = on_top (λ s. record s { has_version = true })
