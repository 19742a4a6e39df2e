-- The instructions of a code, one after another.
use Rattle.std.proofs.Common.{◌≡◌, ◌≤◌, ◌<◌, ◌+◌, ◌-◌, ◌*◌, ℕ, zero, suc, Bool, true, false, List, [], ◌∷◌, ◌++◌, length, refl, sym, ap, ◌∙◌, append_assoc, arith}
use Rattle.std.specs.Prelude.{Result, Ok, Err, ◌||◌, ◌==◌}
use Rattle.std.proofs.lemmas.Bool.Decides.{nat_tests}
use Rattle.bpf_isa.specs.declared.instruction.Instruction.{Instruction}
use Rattle.bpf_isa.specs.declared.instruction.Instruction.TheVariants.{Wide}
use Rattle.bpf_isa.specs.Encoding.{units_of}
use Rattle.bpf_isa.specs.Reading.{decoding, units_in}
use Rattle.bpf_asm.specs.declared.writing.placed.Placed.{Placed}
use Rattle.bpf_asm.specs.declared.errors.DisassembleError.{DisassembleError}
use Rattle.bpf_asm.specs.Listing.{placed_from, placed_first, is_start}
use Rattle.std.proofs.lemmas.List.Folds.{list_any-append}

-- instructions, and those after them
abbrev pub after : List Placed → Result (List Placed) DisassembleError → Result (List Placed) DisassembleError
after placed (Ok others) = Ok (placed ++ others)
after placed (Err e) = Err e

after_first : (placed : List Placed) (pc : ℕ) (i : Instruction) (units : ℕ) (rest : Result (List Placed) DisassembleError) → after placed (placed_first pc (Ok (i, units)) rest) ≡ after (placed ++ (record { pc = pc; instruction = i } ∷ [])) rest
after_first placed pc i units (Ok others) = ap (λ (x : List Placed). Ok x) (sym (append_assoc placed (record { pc = pc; instruction = i } ∷ []) others))
after_first placed pc i units (Err e) = refl

-- before the code's end stands an instruction or none
from_more : (most : ℕ) (code : List ℕ) (pc : ℕ) → 8 * pc < length code → 0 < most → placed_from most code pc ≡ placed_first pc (decoding code pc) (placed_from (most - 1) code (pc + units_in (decoding code pc)))
from_more zero code pc inside some = absurd (omega arith)
from_more (suc most) code pc inside some = grind (arith, nat_tests)

pub after_one : (placed : List Placed) (most : ℕ) (code : List ℕ) (pc : ℕ) (i : Instruction) (units : ℕ) → 8 * pc < length code → 0 < most → decoding code pc ≡ Ok (i, units) → after placed (placed_from most code pc) ≡ after (placed ++ (record { pc = pc; instruction = i } ∷ [])) (placed_from (most - 1) code (pc + units))
after_one placed most code pc i units inside some is =
    rw (from_more most code pc inside some, is) (after_first placed pc i units (placed_from (most - 1) code (pc + units)))

or_false : (b : Bool) → (b || false) ≡ b
or_false true = refl
or_false false = refl

-- one instruction more starts where it stands
pub start_more : (k : ℕ) (placed : List Placed) (p : Placed) → is_start k (placed ++ (p ∷ [])) ≡ (is_start k placed || (p.pc == k))
start_more k placed p = list_any-append (λ (q : Placed). q.pc == k) placed (p ∷ []) ∙ ap (λ (b : Bool). is_start k placed || b) (or_false (p.pc == k))

pub units_some : (i : Instruction) → 1 ≤ units_of i
units_some (Wide destination value) = omega arith
units_some _ = omega arith
