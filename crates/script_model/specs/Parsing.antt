-- What the words of a line say, before anything is known of names and graphs.
use Rattle.std.specs.Prelude.{ℕ, ◌-◌, ◌^◌, min, if◌then◌else◌, Bool, false, List, [], ◌∷◌, map, Option, Some, None, option_map, codes}
use Rattle.bpf_image.specs.Program.{without_table}
use Rattle.past_model.specs.declared.edit.Edit.{Edit}
use Rattle.past_model.specs.declared.edit.Edit.TheVariants.{Insert, Remove}
use Rattle.map_model.specs.declared.reduction.Reduction.{Reduction}
use Rattle.map_model.specs.declared.reduction.Reduction.TheVariants.{Min, Max, Sum}
use Rattle.session_model.specs.Commands.{Asked, Command, MakeGraph, LoadProgram, LoadImage, TakePin, RunProgram, ReportHome, Rebase, ListEdges, SetColumn, ShowValues, PullRows, WriteColumn}
use Rattle.session_model.specs.declared.way.Way.{Way}
use Rattle.session_model.specs.declared.way.Way.TheVariants.{Pull, Push, Each}
use Rattle.script_model.specs.Lexing.{number, is_name, hex, same_bytes, is_dash, is_column_name, column_names}

pub data Statement : Type 0 where
  -- a command of a session, on a line of its own
  Asks : Command → Statement
  -- a batch of edits of a feed begins
  BeginBatch : (feed : ℕ) → Statement
  -- a program in assembler text begins, with its name and record length
  BeginProgram : (name : List ℕ) (record_length : ℕ) → Statement

-- goes on with a value, where there is one
abbrev pub option_then : {A B : Type 0} → Option A → (A → Option B) → Option B
option_then None go = None
option_then (Some x) go = go x

abbrev pub under_name : List ℕ → Option Statement → Option Statement
under_name name statement = if is_name name then statement else None

abbrev pub reduction_of : List ℕ → Option Reduction
reduction_of word =
    if same_bytes word (codes "min") then Some Min
    else (if same_bytes word (codes "max") then Some Max
    else (if same_bytes word (codes "sum") then Some Sum else None))

-- numbers that are all numbers
abbrev pub with_number : Option ℕ → Option (List ℕ) → Option (List ℕ)
with_number None rest = None
with_number (Some n) None = None
with_number (Some n) (Some ns) = Some (n ∷ ns)

abbrev pub numbers : List (List ℕ) → Option (List ℕ)
numbers [] = Some []
numbers (word ∷ words) = with_number (number word) (numbers words)

abbrev pub graph_statement : List (List ℕ) → Option Statement
graph_statement (n ∷ []) = option_then (number n) (λ vertices. Some (Asks (MakeGraph vertices)))
graph_statement _ = None

-- the feed of a letter
abbrev pub feed_of : List ℕ → Option ℕ
feed_of letter =
    if same_bytes letter (codes "A") then Some 0
    else (if same_bytes letter (codes "B") then Some 1
    else (if same_bytes letter (codes "C") then Some 2
    else (if same_bytes letter (codes "D") then Some 3 else None)))

abbrev pub batch_statement : List (List ℕ) → Option Statement
batch_statement (letter ∷ []) = option_map BeginBatch (feed_of letter)
batch_statement _ = None

abbrev pub code_statement : List (List ℕ) → Option Statement
code_statement (name ∷ length ∷ digits ∷ []) =
    under_name name (option_then (number length) (λ record_length. option_then (hex digits) (λ code. Some (Asks (LoadProgram name (without_table code record_length))))))
code_statement _ = None

abbrev pub image_statement : List (List ℕ) → Option Statement
image_statement (name ∷ digits ∷ []) = under_name name (option_then (hex digits) (λ bytes. Some (Asks (LoadImage name bytes))))
image_statement _ = None

abbrev pub program_statement : List (List ℕ) → Option Statement
program_statement (name ∷ length ∷ []) =
    under_name name (option_then (number length) (λ record_length. Some (BeginProgram name record_length)))
program_statement _ = None

abbrev pub pin_statement : List (List ℕ) → Option Statement
pin_statement (name ∷ []) = under_name name (Some (Asks (TakePin name)))
pin_statement _ = None

abbrev pub run_statement : List (List ℕ) → Option Statement
run_statement (program ∷ pin ∷ reducer ∷ digits ∷ frontier) =
    under_name program (under_name pin (option_then (reduction_of reducer) (λ reduction. option_then (hex digits) (λ argument. option_then (numbers frontier) (λ vertices. Some (Asks (RunProgram program pin reduction argument vertices)))))))
run_statement _ = None

abbrev pub home_statement : List (List ℕ) → Option Statement
home_statement (v ∷ []) = option_then (number v) (λ vertex. Some (Asks (ReportHome vertex)))
home_statement _ = None

abbrev pub rebase_statement : List (List ℕ) → Option Statement
rebase_statement [] = Some (Asks Rebase)
rebase_statement _ = None

abbrev pub list_statement : List (List ℕ) → Option Statement
list_statement (program ∷ pin ∷ digits ∷ []) =
    under_name program (under_name pin (option_then (hex digits) (λ argument. Some (Asks (ListEdges program pin argument)))))
list_statement _ = None

abbrev pub under_column_name : List ℕ → Option Statement → Option Statement
under_column_name name statement = if is_column_name name then statement else None

-- a column's numbers have 64 bits: one above them stands as the greatest
abbrev pub column_number : ℕ → ℕ
column_number n = min n (2 ^ 64 - 1)

abbrev pub column_statement : List (List ℕ) → Option Statement
column_statement (name ∷ first ∷ given) =
    under_column_name name (option_then (number first) (λ vertex. option_then (numbers given) (λ ns. Some (Asks (SetColumn name vertex (map column_number ns))))))
column_statement _ = None

abbrev pub values_statement : List (List ℕ) → Option Statement
values_statement (name ∷ frontier) =
    under_column_name name (option_then (numbers frontier) (λ vertices. Some (Asks (ShowValues name vertices))))
values_statement _ = None

-- what a command that lends columns asks for, by its words
abbrev pub asked_of : (program pin : List ℕ) → Reduction → (digits names : List ℕ) → (frontier : List (List ℕ)) → Option Asked
asked_of program pin reduction digits names frontier =
    option_then (hex digits) (λ argument. option_then (column_names names) (λ columns. option_then (numbers frontier) (λ vertices. Some (record { program = program; pin = pin; reduction = reduction; argument = argument; columns = columns; frontier = vertices }))))

-- the words of such a command, and what it does with the word for a column that it writes
abbrev pub lending_statement : (List ℕ → Asked → Option Statement) → List (List ℕ) → Option Statement
lending_statement to (program ∷ pin ∷ reducer ∷ digits ∷ names ∷ into ∷ frontier) =
    under_name program (under_name pin (option_then (reduction_of reducer) (λ reduction. option_then (asked_of program pin reduction digits names frontier) (to into))))
lending_statement to _ = None

-- a column that is written, under its name
abbrev pub write_to : Way → List ℕ → Asked → Option Statement
write_to way into asked = under_column_name into (Some (Asks (WriteColumn way asked into)))

-- rows where no column is named, and else that column
abbrev pub pull_to : List ℕ → Asked → Option Statement
pull_to into asked = if is_dash into then Some (Asks (PullRows asked)) else write_to Pull into asked

abbrev pub pull_statement : List (List ℕ) → Option Statement
pull_statement operands = lending_statement pull_to operands

abbrev pub write_statement : Way → List (List ℕ) → Option Statement
write_statement way operands = lending_statement (write_to way) operands

-- the statement that a line's first word names, with the words after it
abbrev pub statement : List ℕ → List (List ℕ) → Option Statement
statement word operands =
    if same_bytes word (codes "graph") then graph_statement operands
    else (if same_bytes word (codes "batch") then batch_statement operands
    else (if same_bytes word (codes "code") then code_statement operands
    else (if same_bytes word (codes "pin") then pin_statement operands
    else (if same_bytes word (codes "run") then run_statement operands
    else (if same_bytes word (codes "program") then program_statement operands
    else (if same_bytes word (codes "home") then home_statement operands
    else (if same_bytes word (codes "list") then list_statement operands
    else (if same_bytes word (codes "image") then image_statement operands
    else (if same_bytes word (codes "rebase") then rebase_statement operands
    else (if same_bytes word (codes "column") then column_statement operands
    else (if same_bytes word (codes "values") then values_statement operands
    else (if same_bytes word (codes "pull") then pull_statement operands
    else (if same_bytes word (codes "push") then write_statement Push operands
    else (if same_bytes word (codes "each") then write_statement Each operands else None))))))))))))))

-- a block ends at a line whose only word is `end`
abbrev pub is_end : List (List ℕ) → Bool
is_end (word ∷ []) = same_bytes word (codes "end")
is_end _ = false

-- a line of a batch: an edit, or its end
pub data BatchLine : Type 0 where
  OneEdit : Edit → BatchLine
  EndBatch : BatchLine

-- the pair of two numbers that are both numbers
abbrev pub pair_of : Option ℕ → Option ℕ → Option (ℕ × ℕ)
pair_of (Some u) (Some v) = Some (u, v)
pair_of None v = None
pair_of (Some u) None = None

abbrev pub insert_line : ℕ × ℕ → BatchLine
insert_line pair = OneEdit (Insert pair.0 pair.1)

abbrev pub remove_line : ℕ × ℕ → BatchLine
remove_line pair = OneEdit (Remove pair.0 pair.1)

abbrev pub batch_line : List (List ℕ) → Option BatchLine
batch_line (word ∷ []) = if is_end (word ∷ []) then Some EndBatch else None
batch_line (sign ∷ source ∷ target ∷ []) =
    if same_bytes sign (codes "+") then option_map insert_line (pair_of (number source) (number target))
    else (if same_bytes sign (codes "-") then option_map remove_line (pair_of (number source) (number target)) else None)
batch_line _ = None
