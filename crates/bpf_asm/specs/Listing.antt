-- The text of a program: its instructions in order, each target after its label.
use Rattle.std.specs.Prelude.{ℕ, zero, suc, ◌+◌, ◌*◌, ◌≡◌, ◌==◌, nat_le, nat_lt, not, Bool, true, false, if◌then◌else◌, List, [], ◌∷◌, ◌++◌, length, codes, Option, Some, None, Result, Ok, Err, ⊤}
use Rattle.std.specs.List.{flat_map, list_any}
use Rattle.bpf_isa.specs.declared.limits.TheConstants.{MOST_CODE_BYTES}
use Rattle.bpf_isa.specs.declared.instruction.Instruction.{Instruction}
use Rattle.bpf_isa.specs.declared.decode_error.DecodeError.{DecodeError}
use Rattle.bpf_isa.specs.Reading.{decoding, units_in}
use Rattle.bpf_asm.specs.declared.writing.placed.Placed.{Placed}
use Rattle.bpf_asm.specs.declared.writing.placed.Target.{Target}
use Rattle.bpf_asm.specs.declared.writing.placed.Target.TheVariants.{Nowhere, Before, At}
use Rattle.bpf_asm.specs.declared.errors.DisassembleError.{DisassembleError}
use Rattle.bpf_asm.specs.declared.errors.DisassembleError.TheVariants.{BadCode, JumpOut, TooLong, OutOfMemory}
use Rattle.bpf_asm.specs.Writing.{target_of, label_text, statement_text}

-- ---- the instructions, one after another

-- the instruction at a pc before those that follow it
abbrev pub placed_first : ℕ → Result (Instruction × ℕ) DecodeError → Result (List Placed) DisassembleError → Result (List Placed) DisassembleError
placed_first pc (Ok found) (Ok others) = Ok (record { pc = pc; instruction = found.0 } ∷ others)
placed_first pc (Ok found) (Err e) = Err e
placed_first pc (Err e) others = Err (BadCode pc)

-- the instructions from a pc to the end of the code, of which there are at most so many
abbrev pub placed_from : ℕ → List ℕ → ℕ → Result (List Placed) DisassembleError
placed_from zero code pc = Ok []
placed_from (suc most) code pc =
    if nat_le (length code) (8 * pc) then Ok []
    else placed_first pc (decoding code pc) (placed_from most code (pc + units_in (decoding code pc)))

abbrev pub instructions : List ℕ → Result (List Placed) DisassembleError
instructions code = placed_from (length code) code 0

-- ---- where jumps land

abbrev pub is_start : ℕ → List Placed → Bool
is_start k placed = list_any (λ (p : Placed). p.pc == k) placed

abbrev pub target : Placed → Target
target p = target_of p.pc p.instruction

abbrev pub lands_at : ℕ → Target → Bool
lands_at k Nowhere = false
lands_at k Before = false
lands_at k (At n) = n == k

-- an instruction goes to this unit
abbrev pub is_target : ℕ → List Placed → Bool
is_target k placed = list_any (λ (p : Placed). lands_at k (target p)) placed

-- no instruction starts at the target
abbrev pub jumps_out : List Placed → Target → Bool
jumps_out all Nowhere = false
jumps_out all Before = true
jumps_out all (At k) = not (is_start k all)

-- the first of some instructions that goes to none of the program's
abbrev pub first_out : List Placed → List Placed → Option ℕ
first_out all [] = None
first_out all (p ∷ placed) = if jumps_out all (target p) then Some p.pc else first_out all placed

-- ---- the text

abbrev pub label_line : ℕ → List ℕ
label_line k = label_text k ++ codes ":\n"

-- an instruction's lines: its label where it is a target, and its statement
abbrev pub lines_of : List Placed → Placed → List ℕ
lines_of all p = (if is_target p.pc all then label_line p.pc else []) ++ (statement_text p.pc p.instruction ++ codes "\n")

abbrev pub listing : List Placed → List ℕ
listing all = flat_map (lines_of all) all

-- the text, unless an instruction jumps out
abbrev pub unless_out : Option ℕ → List Placed → Result (List ℕ) DisassembleError
unless_out None placed = Ok (listing placed)
unless_out (Some pc) placed = Err (JumpOut pc)

abbrev pub listing_of_placed : Result (List Placed) DisassembleError → Result (List ℕ) DisassembleError
listing_of_placed (Ok placed) = unless_out (first_out placed placed) placed
listing_of_placed (Err e) = Err e

-- the text of a code, or why there is none
abbrev pub disassembly : List ℕ → Result (List ℕ) DisassembleError
disassembly code = if nat_lt MOST_CODE_BYTES (length code) then Err TooLong else listing_of_placed (instructions code)

-- the error that the definition gives, if there was memory
abbrev pub Refuses : {A : Type 0} → DisassembleError → Result A DisassembleError → Type 0
Refuses OutOfMemory is = ⊤
Refuses (BadCode pc) is = is ≡ Err (BadCode pc)
Refuses (JumpOut pc) is = is ≡ Err (JumpOut pc)
Refuses TooLong is = is ≡ Err TooLong
