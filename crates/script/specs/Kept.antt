-- The fields of a script as the script of the definitions, and what is always true of them.
use Rattle.std.specs.Prelude.{◌≡◌, ℕ, ◌||◌, Bool, true, Option, Some, None, option_map}
use Rattle.std.specs.List.{list_all}
use Rattle.session_model.specs.Session.{Session}
use Rattle.script_model.specs.Lexing.{is_newline, is_plain}
use Rattle.script_model.specs.State.{OpenBatch, OpenProgram, Block, BatchBlock, ProgramBlock, Script}
use Rattle.script.specs.declared.block.BegunBatch.{BegunBatch}
use Rattle.script.specs.declared.block.BegunProgram.{BegunProgram}
use Rattle.script.specs.declared.block.Block.{Block as BegunBlock}
use Rattle.script.specs.declared.block.Block.TheVariants as blocks

abbrev pub open_batch : BegunBatch → OpenBatch
open_batch b = record { line = b.line; feed = b.feed; edits = b.edits.items }

abbrev pub open_program : BegunProgram → OpenProgram
open_program p =
    record { line = p.line; name = p.name.items; record_length = p.record_length; lines = p.lines; text = p.text.items }

abbrev pub block_of : BegunBlock → Block
block_of (blocks.Batch b) = BatchBlock (open_batch b)
block_of (blocks.Program p) = ProgramBlock (open_program p)

abbrev pub script_of : Session → Option BegunBlock → ℕ → Script
script_of session block line = record { session = session; block = option_map block_of block; line = line }

-- a byte that lines with their line feeds may have
abbrev pub is_text_byte : ℕ → Bool
is_text_byte b = is_plain b || is_newline b

-- a program's lines are text
abbrev pub HasText : BegunProgram → Type 0
HasText p = list_all is_text_byte p.text.items ≡ true

abbrev pub IsBlock : Option BegunBlock → Type 0
IsBlock None = Unit {0}
IsBlock (Some (blocks.Batch b)) = Unit {0}
IsBlock (Some (blocks.Program p)) = HasText p

-- a batch is open
abbrev pub HasBatch : Script → Type 0
HasBatch s = (begun : OpenBatch) × (s.block ≡ Some (BatchBlock begun))
