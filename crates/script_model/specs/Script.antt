-- A whole script: the text that is written for its bytes, and how it ends.
use Rattle.std.specs.Prelude.{ℕ, ◌+◌, List, [], ◌∷◌, ◌++◌, Option, Some, None}
use Rattle.script_model.specs.declared.ending.Ending.{Ending}
use Rattle.script_model.specs.declared.ending.Ending.TheVariants as endings
use Rattle.script_model.specs.declared.line_fault.LineFault.{LineFault}
use Rattle.script_model.specs.declared.line_fault.LineFault.TheVariants as faults
use Rattle.script_model.specs.Lexing.{script_lines}
use Rattle.script_model.specs.State.{Block, first_line, Script, new_script}
use Rattle.script_model.specs.Texts.{fault_text}
use Rattle.script_model.specs.Execution.{Execution, Says, Stops, execution}

-- all that is written, and how the script ended
pub record Meaning : Type 0 where
  pub text : List ℕ
  pub ending : Ending

-- text that comes before
abbrev pub after_text : List ℕ → Meaning → Meaning
after_text text o = record { text = text ++ o.text; ending = o.ending }

abbrev pub fault_meaning : LineFault → ℕ → Meaning
fault_meaning fault line = record { text = fault_text fault line; ending = endings.Fault }

-- the end of the input: a block that is still open is a fault of the line that opened it
abbrev pub end_meaning : Option Block → Meaning
end_meaning None = record { text = []; ending = endings.Complete }
end_meaning (Some block) = fault_meaning faults.OpenBlock (first_line block)

-- goes on after a line of this number
abbrev pub meaning_after : Execution → ℕ → (List ℕ → Script → Meaning) → Meaning
meaning_after (Says text s) line go = go text s
meaning_after (Stops fault) line go = fault_meaning fault line

-- the script with one line more after it
abbrev pub next_line : ℕ → Script → Script
next_line line s = record s { line = line + 1 }

-- what some lines mean to a script
abbrev pub meaning_from : Script → List (List ℕ) → Meaning
meaning_from s [] = end_meaning s.block
meaning_from s (bytes ∷ lines) =
    meaning_after (execution s bytes) s.line (λ text next. after_text text (meaning_from (next_line s.line next) lines))

-- what a script's bytes mean
abbrev pub meaning : List ℕ → Meaning
meaning bytes = meaning_from new_script (script_lines bytes)
