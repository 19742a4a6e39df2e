-- The code that a text means, line by line, or its first fault.
use Rattle.std.specs.Prelude.{ℕ, ◌+◌, ◌-◌, ◌^◌, ◌≡◌, nat_le, nat_lt, Bool, false, true, if◌then◌else◌, List, [], ◌∷◌, ◌++◌, length, ℤ, Option, Some, None, option_map, Result, Ok, Err, ⊤}
use Rattle.bpf_isa.specs.declared.limits.TheConstants.{MOST_UNITS}
use Rattle.bpf_isa.specs.declared.instruction.Distance.TheVariants.{Near, Far}
use Rattle.bpf_isa.specs.declared.instruction.Instruction.{Instruction}
use Rattle.bpf_isa.specs.declared.instruction.Instruction.TheVariants as instructions
use Rattle.bpf_isa.specs.Encoding.{spelling, units_of}
use Rattle.bpf_asm.specs.declared.errors.TextCause.{TextCause}
use Rattle.bpf_asm.specs.declared.errors.TextCause.TheVariants.{DoubleLabel, UnknownLabel, TooLong, OutOfMemory}
use Rattle.bpf_asm.specs.declared.errors.AssembleError.{AssembleError}
use Rattle.bpf_asm.specs.declared.reading.item.Jumping.{Jumping}
use Rattle.bpf_asm.specs.declared.reading.item.Jumping.TheVariants as jumpings
use Rattle.bpf_asm.specs.Lexing.{parts, same_bytes, is_none}
use Rattle.bpf_asm.specs.Statements.{Item, Blank, Labelled, Plain, Goes, item, in_range, signed_below}

-- ---- lines

abbrev pub item_units : Item → ℕ
item_units Blank = 0
item_units (Labelled name) = 0
item_units (Plain i) = units_of i
item_units (Goes jumping name) = 1

-- the units of some lines' code
abbrev pub units : List Item → ℕ
units [] = 0
units (i ∷ items) = item_units i + units items

abbrev pub is_label : List ℕ → Item → Bool
is_label name (Labelled other) = same_bytes other name
is_label name _ = false

-- the unit at which a label stands, in lines whose code begins at a pc
abbrev pub place_from : ℕ → List ℕ → List Item → Option ℕ
place_from pc name [] = None
place_from pc name (i ∷ items) = if is_label name i then Some pc else place_from (pc + item_units i) name items

abbrev pub place : List ℕ → List Item → Option ℕ
place name items = place_from 0 name items

-- a statement after some lines, if the code is not too long with it
abbrev pub length_admission : List Item → Item → Result Item TextCause
length_admission before i = if nat_lt MOST_UNITS (units before + item_units i) then Err TooLong else Ok i

-- a line after some lines, unless that is a fault
abbrev pub admission : List Item → Item → Result Item TextCause
admission before Blank = Ok Blank
admission before (Labelled name) = if is_none (place name before) then Ok (Labelled name) else Err DoubleLabel
admission before (Plain i) = length_admission before (Plain i)
admission before (Goes jumping name) = length_admission before (Goes jumping name)

abbrev pub reading_admission : List Item → Result Item TextCause → Result Item TextCause
reading_admission before (Ok i) = admission before i
reading_admission before (Err cause) = Err cause

-- goes on after a line, or reports its fault
abbrev pub after_line : List Item → Result Item TextCause → (Item → Result (List Item) AssembleError) → Result (List Item) AssembleError
after_line before (Ok i) go = go i
after_line before (Err cause) go = Err (record { line = length before + 1; cause = cause })

-- what the lines say, after those before them; or the first line that is faulty
abbrev pub items_from : List Item → List (List ℕ) → Result (List Item) AssembleError
items_from before [] = Ok before
items_from before (line ∷ lines) =
    after_line before (reading_admission before (item line)) (λ i. items_from (before ++ (i ∷ [])) lines)

abbrev pub items : List ℕ → Result (List Item) AssembleError
items text = items_from [] (parts 10 text)

-- ---- code

-- how far it is from a unit to another, if that is from -limit to limit - 1
abbrev pub distance : ℕ → ℕ → ℕ → Option ℤ
distance limit from to = if nat_le from to then signed_below limit false (to - from) else signed_below limit true (from - to)

-- the instruction that goes to a unit, before this next one
abbrev pub jump_to : Jumping → ℕ → ℕ → Option Instruction
jump_to jumpings.Near next to = option_map (λ n. instructions.Jump (Near n)) (distance (2 ^ 15) next to)
jump_to jumpings.Far next to = option_map (λ n. instructions.Jump (Far n)) (distance (2 ^ 31) next to)
jump_to jumpings.Call next to = option_map instructions.CallLocal (distance (2 ^ 31) next to)
jump_to (jumpings.Branch width comparison left right) next to =
    option_map (instructions.Branch width comparison left right) (distance (2 ^ 15) next to)

abbrev pub jump_instruction : Jumping → ℕ → Option ℕ → Result Instruction TextCause
jump_instruction jumping next None = Err UnknownLabel
jump_instruction jumping next (Some to) = in_range (jump_to jumping next to)

abbrev pub spelling_of : Result Instruction TextCause → Result (List ℕ) TextCause
spelling_of (Ok i) = Ok (spelling i)
spelling_of (Err cause) = Err cause

-- the bytes of a line whose code begins at a pc
abbrev pub item_bytes : List Item → ℕ → Item → Result (List ℕ) TextCause
item_bytes all pc Blank = Ok []
item_bytes all pc (Labelled name) = Ok []
item_bytes all pc (Plain i) = Ok (spelling i)
item_bytes all pc (Goes jumping name) = spelling_of (jump_instruction jumping (pc + 1) (place name all))

abbrev pub bytes_first : ℕ → Result (List ℕ) TextCause → Result (List ℕ) AssembleError → Result (List ℕ) AssembleError
bytes_first line (Ok bytes) (Ok code) = Ok (bytes ++ code)
bytes_first line (Ok bytes) (Err e) = Err e
bytes_first line (Err cause) code = Err (record { line = line; cause = cause })

-- the code of lines from a line and a pc on
abbrev pub code_from : List Item → ℕ → ℕ → List Item → Result (List ℕ) AssembleError
code_from all line pc [] = Ok []
code_from all line pc (i ∷ lines) = bytes_first line (item_bytes all pc i) (code_from all (line + 1) (pc + item_units i) lines)

abbrev pub code_of_items : Result (List Item) AssembleError → Result (List ℕ) AssembleError
code_of_items (Ok all) = code_from all 1 0 all
code_of_items (Err e) = Err e

-- the code that a text means, or its first fault
abbrev pub assembly : List ℕ → Result (List ℕ) AssembleError
assembly text = code_of_items (items text)

abbrev pub unless_memory : TextCause → Type 0 → Type 0
unless_memory OutOfMemory P = ⊤
unless_memory _ P = P

-- the fault that the definition gives, if there was memory
abbrev pub Faults : {A : Type 0} → AssembleError → Result A AssembleError → Type 0
Faults e is = unless_memory e.cause (is ≡ Err e)
