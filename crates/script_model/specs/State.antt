-- How far a script is: its session, the block that is open, and the next line.
use Rattle.std.specs.Prelude.{ℕ, List, Option, None}
use Rattle.past_model.specs.declared.edit.Edit.{Edit}
use Rattle.session_model.specs.Session.{Session, new_session}

-- a batch whose end has not come: the line that opened it, its feed, and its edits so far
pub record OpenBatch : Type 0 where
  pub line : ℕ
  pub feed : ℕ
  pub edits : List Edit

-- a program in assembler text whose end has not come: the line that opened it, its name and record
-- length, how many lines it has so far, and these lines, each with its line feed
pub record OpenProgram : Type 0 where
  pub line : ℕ
  pub name : List ℕ
  pub record_length : ℕ
  pub lines : ℕ
  pub text : List ℕ

-- lines that belong together, up to their end
pub data Block : Type 0 where
  BatchBlock : OpenBatch → Block
  ProgramBlock : OpenProgram → Block

-- the line that opened a block
abbrev pub first_line : Block → ℕ
first_line (BatchBlock begun) = begun.line
first_line (ProgramBlock begun) = begun.line

-- the session, the block that is open, and the number of the next line, from 1
pub record Script : Type 0 where
  pub session : Session
  pub block : Option Block
  pub line : ℕ

abbrev pub new_script : Script
new_script = record { session = new_session; block = None; line = 1 }
