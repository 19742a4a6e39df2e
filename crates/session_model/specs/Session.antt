-- What a session has made so far: a graph, programs, pins and columns.
use Rattle.std.specs.Prelude.{ℕ, if◌then◌else◌, List, [], ◌∷◌, Option, Some, None}
use Rattle.bpf_asm.specs.Lexing.{same_bytes}
use Rattle.bpf_image.specs.Program.{Program}
use Rattle.past_model.specs.declared.entry.Entry.{Entry}
use Rattle.past_model.specs.Past.{Past}

-- a program that was accepted, under its name
pub record KeptProgram : Type 0 where
  pub name : List ℕ
  pub program : Program

-- a version that was pinned, under its name
pub record KeptPin : Type 0 where
  pub name : List ℕ
  pub past : Past

-- a column under its name: a number for each vertex
pub record KeptColumn : Type 0 where
  pub name : List ℕ
  pub numbers : List ℕ

-- the last version of the graph, if there is a graph; the batch that its store took and could not publish, for lack of
-- memory or of a worker, if there is one; programs, pins and columns in the order of their making
pub record Session : Type 0 where
  pub past : Option Past
  pub held : Option Entry
  pub programs : List KeptProgram
  pub pins : List KeptPin
  pub columns : List KeptColumn

abbrev pub new_session : Session
new_session = record { past = None; held = None; programs = []; pins = []; columns = [] }

abbrev pub program_named : List ℕ → List KeptProgram → Option Program
program_named name [] = None
program_named name (kept ∷ others) = if same_bytes kept.name name then Some kept.program else program_named name others

abbrev pub pin_named : List ℕ → List KeptPin → Option Past
pin_named name [] = None
pin_named name (kept ∷ others) = if same_bytes kept.name name then Some kept.past else pin_named name others

abbrev pub column_named : List ℕ → List KeptColumn → Option (List ℕ)
column_named name [] = None
column_named name (kept ∷ others) = if same_bytes kept.name name then Some kept.numbers else column_named name others

-- a column before others, where there are all
abbrev pub with_column : Option (List ℕ) → Option (List (List ℕ)) → Option (List (List ℕ))
with_column None others = None
with_column (Some numbers) None = None
with_column (Some numbers) (Some others) = Some (numbers ∷ others)

-- the columns of some names, where there are all
abbrev pub columns_named : List (List ℕ) → List KeptColumn → Option (List (List ℕ))
columns_named [] kept = Some []
columns_named (name ∷ names) kept = with_column (column_named name kept) (columns_named names kept)

-- the columns after that of a name has got these numbers; it comes last if there was none
abbrev pub stored : List ℕ → List ℕ → List KeptColumn → List KeptColumn
stored name numbers [] = record { name = name; numbers = numbers } ∷ []
stored name numbers (kept ∷ others) =
    if same_bytes kept.name name then record { name = kept.name; numbers = numbers } ∷ others else kept ∷ stored name numbers others
