-- What is read from the front of a line.
use Rattle.std.specs.Prelude.{ℕ, List, [], ◌∷◌, map, Option, Some, None, option_map}
use Rattle.bpf_image.specs.Program.{without_table}
use Rattle.map_model.specs.declared.reduction.Reduction.{Reduction}
use Rattle.script_model.specs.Lexing.{number, hex}
use Rattle.session_model.specs.Commands.{LoadProgram, LoadImage, RunProgram, ListEdges, SetColumn}
use Rattle.script_model.specs.Parsing.{pair_of, Statement, Asks, option_then, numbers, column_number}
use Rattle.script.specs.Said.{cut_number}

abbrev pub cut_before : List (List ℕ) → ℕ → ℕ × List (List ℕ)
cut_before words n = (cut_number n, words)

-- the number that the first word is, with the words after it
abbrev pub first_number : List (List ℕ) → Option (ℕ × List (List ℕ))
first_number [] = None
first_number (word ∷ words) = option_map (cut_before words) (number word)

-- the two numbers that stand after a sign
abbrev pub pair_behind : List (List ℕ) → Option (ℕ × ℕ)
pair_behind (source ∷ target ∷ []) = pair_of (number source) (number target)
pair_behind _ = None

abbrev pub cut_pair : ℕ × ℕ → ℕ × ℕ
cut_pair pair = (cut_number pair.0, cut_number pair.1)

-- the statement to load a program whose code these digits spell
abbrev pub load_of : List ℕ → ℕ → List ℕ → Option Statement
load_of name record_length digits = option_then (hex digits) (λ code. Some (Asks (LoadProgram name (without_table code record_length))))

-- the statement to load the program of an image whose bytes these digits spell
abbrev pub image_of : List ℕ → List ℕ → Option Statement
image_of name digits = option_then (hex digits) (λ bytes. Some (Asks (LoadImage name bytes)))

-- the statement to run a program with the argument that these digits spell, over these vertices
abbrev pub run_of : List ℕ → List ℕ → Reduction → List ℕ → List (List ℕ) → Option Statement
run_of program pin reduction digits frontier =
    option_then (hex digits) (λ argument. option_then (numbers frontier) (λ vertices. Some (Asks (RunProgram program pin reduction argument vertices))))

-- the statement to list the edges of a pin with the argument that these digits spell
abbrev pub list_of : List ℕ → List ℕ → List ℕ → Option Statement
list_of program pin digits = option_then (hex digits) (λ argument. Some (Asks (ListEdges program pin argument)))

-- the statement to set these numbers of a column from a vertex on
abbrev pub column_of : List ℕ → ℕ → List (List ℕ) → Option Statement
column_of name first given = option_then (numbers given) (λ ns. Some (Asks (SetColumn name first (map column_number ns))))
