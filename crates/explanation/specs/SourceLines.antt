-- The lines of an assembler text that hold a statement.
use Rattle.std.specs.Prelude.{ℕ, ◌+◌, ◌==◌, ◌&&◌, not, Bool, List, [], ◌∷◌, filter}
use Rattle.std.specs.List.{before_first}
use Rattle.std.specs.Str.{trim}
use Rattle.bpf_asm.specs.Lexing.{parts, is_empty}
use Rattle.bpf_asm.specs.Statements.{ends_in_colon}
use Rattle.explanation.specs.declared.source.SourceLine.{SourceLine}

-- a line's number, and what it says
pub record Numbered : Type 0 where
  pub number : ℕ
  pub said : List ℕ

-- a line without its comment, which begins at `;`, and without white space at both ends
abbrev pub said_on : List ℕ → List ℕ
said_on line = trim (before_first (λ b. b == 59) line)

abbrev pub numbered_line : (number : ℕ) → List ℕ → Numbered
numbered_line number line = record { number = number; said = said_on line }

-- lines with their numbers, which begin here
abbrev pub numbered : (first : ℕ) → List (List ℕ) → List Numbered
numbered first [] = []
numbered first (line ∷ lines) = numbered_line first line ∷ numbered (first + 1) lines

-- a line says something that is no label
abbrev pub holds_statement : Numbered → Bool
holds_statement line = not (is_empty line.said) && not (ends_in_colon line.said)

-- the lines of a text that hold a statement, in order, with their numbers from 1
abbrev pub statement_lines : List ℕ → List Numbered
statement_lines text = filter holds_statement (numbered 1 (parts 10 text))

-- a line of the code, as these definitions have it
abbrev pub as_numbered : SourceLine → Numbered
as_numbered line = record { number = line.number; said = line.text.now }
