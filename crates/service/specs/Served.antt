-- How far a script has come, against its meaning.
use Rattle.std.specs.Prelude.{◌≡◌, ◌+◌, ◌<◌, ◌≤◌, ℕ, false, length, take, drop, List, ◌∷◌, ◌++◌, Result, Ok, Err, ⊤}
use Rattle.std.specs.List.{AllByRecursion, flat_map}
use Rattle.map_model.specs.declared.listed_edge.ListedEdge.{ListedEdge}
use Rattle.service.specs.declared.lines.Progress.{Progress}
use Rattle.service.specs.declared.lines.Progress.TheVariants as progress
use Rattle.script.specs.declared.error.ScriptError.{ScriptError}
use Rattle.script_model.specs.declared.ending.Ending.TheVariants as endings
use Rattle.script_model.specs.declared.limits.TheConstants.{MOST_LINE_BYTES}
use Rattle.script_model.specs.Lexing.{is_newline, script_lines}
use Rattle.script_model.specs.State.{Script}
use Rattle.script_model.specs.Texts.{edge_text}
use Rattle.script_model.specs.Script.{after_text, meaning_from, meaning}

-- however the script goes on, it means what was said so far, and then what the bytes that are left mean
-- to this script
abbrev pub Served : List ℕ → List ℕ → Script → List ℕ → Type 0
Served read said s left =
    (rest : List ℕ) → meaning (read ++ rest) ≡ after_text said (meaning_from s (script_lines (left ++ rest)))

-- however it goes on, it means this
abbrev pub Settled : List ℕ → List ℕ → Type 0
Settled read said = (rest : List ℕ) → meaning (read ++ rest) ≡ record { text = said; ending = endings.Fault }

-- no byte of a list ends a line
abbrev pub IsOneLine : List ℕ → Type 0
IsOneLine bytes = AllByRecursion (λ (b : ℕ). is_newline b ≡ false) bytes

-- a line and its end stand before what is left
abbrev pub IsLine : List ℕ → ℕ → Type 0
IsLine bytes k = IsOneLine (take k bytes) × (bytes ≡ take k bytes ++ (10 ∷ drop (k + 1) bytes)) × (k < length bytes)

-- what is served with so much of some bytes executed, and the text that this adds
abbrev pub Serving : (old new : Script) → (bytes left text said : List ℕ) → Type 0
Serving old new bytes left text said =
    (read before : List ℕ) → Served read before old bytes → (t : List ℕ) × (said ≡ text ++ t) × Served read (before ++ t) new left

-- a script that is settled, and the text that this adds
abbrev pub Settling : Script → (bytes text said : List ℕ) → Type 0
Settling old bytes text said =
    (read before : List ℕ) → Served read before old bytes → (t : List ℕ) × (said ≡ text ++ t) × Settled read (before ++ t)

-- what is served with so much of some bytes executed but for the lines of some edges, and the text that this adds
abbrev pub Listing : (old new : Script) → (bytes left text said : List ℕ) → List ListedEdge → Type 0
Listing old new bytes left text said edges =
    (read before : List ℕ) → Served read before old bytes
    → (t : List ℕ) × (said ≡ text ++ t) × Served read (before ++ (t ++ flat_map edge_text edges)) new left

-- what is left of some bytes after all their whole lines, or after one that lists edges, or a script that is settled
abbrev pub TakesLines : Result Progress ScriptError → List ℕ → (old new : Script) → (text said : List ℕ) → Type 0
TakesLines (Ok (progress.Left from)) bytes old new text said =
    (from ≤ length bytes) × IsOneLine (drop from bytes) × Serving old new bytes (drop from bytes) text said
TakesLines (Ok (progress.Lists from edges)) bytes old new text said =
    (from ≤ length bytes) × (0 < from) × Listing old new bytes (drop from bytes) text said edges
TakesLines (Ok progress.Settled) bytes old new text said = Settling old bytes text said
TakesLines (Err e) bytes old new text said = ⊤

-- less than a line is left, and no more bytes than a line may have
abbrev pub LeavesFew : Result Progress ScriptError → List ℕ → Type 0
LeavesFew (Ok (progress.Left from)) bytes = length bytes ≤ from + MOST_LINE_BYTES
LeavesFew (Ok (progress.Lists from edges)) bytes = ⊤
LeavesFew (Ok progress.Settled) bytes = ⊤
LeavesFew (Err e) bytes = ⊤
