-- Code that is a program, its instructions, and its text.
use Rattle.std.proofs.Common.{◌≡◌, ◌≤◌, ◌+◌, ◌*◌, ℕ, zero, suc, true, false, List, [], ◌∷◌, length, refl, sym, ap, subst, ◌∙◌, inl, inr, arith}
use Rattle.std.specs.Prelude.{nat_le, nat_lt, Option, Some, None, Result, Ok, Err}
use Rattle.std.specs.List.{AllByRecursion}
use Rattle.std.proofs.lemmas.Bool.{cases_Bool}
use Rattle.std.proofs.lemmas.Bool.Decides.{nat_tests}
use Rattle.bpf_isa.specs.declared.limits.TheConstants.{MOST_CODE_BYTES}
use Rattle.bpf_isa.specs.declared.instruction.Instruction.{Instruction}
use Rattle.bpf_isa.specs.declared.decode_error.DecodeError.{DecodeError}
use Rattle.bpf_isa.specs.Encoding.{IsCodeAt, units_of}
use Rattle.bpf_isa.specs.Reading.{decoding, units_in}
use Rattle.bpf_asm.specs.declared.errors.DisassembleError.{DisassembleError}
use Rattle.bpf_asm.specs.declared.errors.DisassembleError.TheVariants.{TooLong}
use Rattle.bpf_asm.specs.declared.writing.placed.Placed.{Placed}
use Rattle.bpf_asm.specs.declared.writing.placed.Target.{Target}
use Rattle.bpf_asm.specs.declared.writing.placed.Target.TheVariants.{Nowhere, Before, At}
use Rattle.bpf_asm.specs.Listing.{placed_first, placed_from, instructions, is_start, target, jumps_out, first_out, listing, unless_out, listing_of_placed, disassembly}
use Rattle.bpf_asm.specs.Laws.{StandFrom, LandsIn, IsProgram}
use Rattle.bpf_asm.proofs.Placing.{units_some}
use Rattle.bpf_asm.proofs.LabelPlaces.{stand_end}

-- what is decoded stands in the code, and the other way round
pub record Decodes (code : List ℕ) : Type 0 where
  pub stands : (pc : ℕ) (i : Instruction) (units : ℕ) → decoding code pc ≡ Ok (i, units) → IsCodeAt code pc i units
  pub inside : (pc : ℕ) (i : Instruction) (units : ℕ) → decoding code pc ≡ Ok (i, units) → 8 * (pc + units) ≤ length code
  pub only : (pc : ℕ) (i : Instruction) (units : ℕ) → IsCodeAt code pc i units → decoding code pc ≡ Ok (i, units)

abbrev some_placed : List Placed → Result (List Placed) DisassembleError
some_placed placed = Ok placed

abbrev some_text : List ℕ → Result (List ℕ) DisassembleError
some_text text = Ok text

-- ---- from a program to its text

pub placed_again : (code : List ℕ) (most pc : ℕ) (placed : List Placed) → Decodes code → StandFrom code pc placed → length code ≤ 8 * pc + most → placed_from most code pc ≡ Ok placed
placed_again code zero pc [] d stands enough = refl
placed_again code (suc most) pc [] d stands enough =
    let end : nat_le (length code) (8 * pc) ≡ true = grind (arith, nat_tests) in
    simp end
placed_again code zero pc (p ∷ placed) d stands enough = absurd (omega (arith, stand_end code (pc + units_of p.instruction) placed stands.2, units_some p.instruction))
placed_again code (suc most) pc (p ∷ placed) d stands enough =
    let i = p.instruction in
    let within = stand_end code (pc + units_of i) placed stands.2 in
    let some = units_some i in
    let more : nat_le (length code) (8 * pc) ≡ false = grind (arith, nat_tests) in
    let found = d.only pc i (units_of i) stands.1 in
    let rest = placed_again code most (pc + units_of i) placed d stands.2 (omega arith) in
    let here = ap (λ (r : Result (Instruction × ℕ) DecodeError). placed_first pc r (placed_from most code (pc + units_in r))) found in
    simp more (here ∙ ap (placed_first pc (Ok (i, units_of i))) rest ∙ ap (λ (n : ℕ). some_placed (record { pc = n; instruction = i } ∷ placed)) (sym stands.0))

lands_inside : (all : List Placed) (t : Target) → LandsIn all t → jumps_out all t ≡ false
lands_inside all Nowhere lands = refl
lands_inside all Before lands = absurd lands
lands_inside all (At k) lands = simp lands

none_out : (all placed : List Placed) → AllByRecursion (λ (p : Placed). LandsIn all (target p)) placed → first_out all placed ≡ None
none_out all [] lands = refl
none_out all (p ∷ placed) lands = simp (lands_inside all (target p) lands.0, none_out all placed lands.1)

pub program_listed : (code : List ℕ) (all : List Placed) → Decodes code → IsProgram code all → disassembly code ≡ Ok (listing all)
program_listed code all d program =
    let small : nat_lt MOST_CODE_BYTES (length code) ≡ false = grind (arith, nat_tests, program.short) in
    let placed = placed_again code (length code) 0 all d program.stands (omega arith) in
    simp small (ap listing_of_placed placed ∙ ap (λ (o : Option ℕ). unless_out o all) (none_out all all program.lands))

-- ---- from a text to the program

-- the first of some instructions, and those after it
pub record HasFirst (pc : ℕ) (r : Result (Instruction × ℕ) DecodeError) (rest : Result (List Placed) DisassembleError) (placed : List Placed) : Type 0 where
  pub found : Instruction × ℕ
  pub others : List Placed
  pub first : r ≡ Ok found
  pub behind : rest ≡ Ok others
  pub are : placed ≡ record { pc = pc; instruction = found.0 } ∷ others

has_first : (pc : ℕ) (r : Result (Instruction × ℕ) DecodeError) (rest : Result (List Placed) DisassembleError) (placed : List Placed) → placed_first pc r rest ≡ Ok placed → HasFirst pc r rest placed
has_first pc (Ok found) (Ok others) placed is = record { found = found; others = others; first = refl; behind = refl; are = cc }
has_first pc (Ok found) (Err e) placed is = absurd (cc)
has_first pc (Err e) rest placed is = absurd (cc)

ended : (code : List ℕ) (pc : ℕ) (placed : List Placed) → some_placed [] ≡ Ok placed → length code ≡ 8 * pc → StandFrom code pc placed
ended code pc [] is end = end
ended code pc (p ∷ placed) is end = absurd (cc)

pub placed_stand : (code : List ℕ) (most pc : ℕ) (placed : List Placed) → Decodes code → placed_from most code pc ≡ Ok placed → 8 * pc ≤ length code → length code ≤ 8 * pc + most → StandFrom code pc placed
placed_stand code zero pc placed d is within enough = ended code pc placed is (omega arith)
placed_stand code (suc most) pc placed d is within enough = elim (cases_Bool (nat_le (length code) (8 * pc))) [
  | inl end ↦
      let same : length code ≡ 8 * pc = grind (arith, nat_tests) in
      ended code pc placed (simp end at is) same
  | inr more ↦
      let has = has_first pc (decoding code pc) (placed_from most code (pc + units_in (decoding code pc))) placed (simp more at is) in
      let i = has.found.0 in
      let at = d.stands pc i has.found.1 has.first in
      let units = ap units_in has.first in
      let same : pc + units_in (decoding code pc) ≡ pc + units_of i = ap (λ (n : ℕ). pc + n) (units ∙ sym at.units_are) in
      let behind : placed_from most code (pc + units_of i) ≡ Ok has.others = ap (λ (n : ℕ). placed_from most code n) (sym same) ∙ has.behind in
      let inside : 8 * (pc + units_of i) ≤ length code = omega (arith, d.inside pc i has.found.1 has.first, at.units_are) in
      let rest = placed_stand code most (pc + units_of i) has.others d behind inside (omega (arith, units_some i)) in
      let here = subst (λ (n : ℕ). IsCodeAt code pc i n) (sym at.units_are) at in
      subst (λ (x : List Placed). StandFrom code pc x) (sym has.are) (refl, here, rest)
]

lands_from : (all : List Placed) (t : Target) → jumps_out all t ≡ false → LandsIn all t
lands_from all Nowhere is = tt
lands_from all Before is = absurd (cc)
lands_from all (At k) is = elim (cases_Bool (is_start k all)) [
  | inl start ↦ start
  | inr none ↦ absurd (let e : true ≡ false = (simp none at is) in cc)
]

all_land : (all placed : List Placed) → first_out all placed ≡ None → AllByRecursion (λ (p : Placed). LandsIn all (target p)) placed
all_land all [] none = tt
all_land all (p ∷ placed) none = elim (cases_Bool (jumps_out all (target p))) [
  | inl out ↦ absurd (let e : Some p.pc ≡ None = (simp out at none) in cc)
  | inr lands ↦ (lands_from all (target p) lands, all_land all placed (simp lands at none))
]

-- the instructions that a text lists
pub record IsListed (r : Result (List Placed) DisassembleError) (text : List ℕ) : Type 0 where
  pub all : List Placed
  pub placed : r ≡ Ok all
  pub inside : first_out all all ≡ None
  pub is : listing all ≡ text

no_out : (all : List Placed) (o : Option ℕ) (text : List ℕ) → unless_out o all ≡ Ok text → (o ≡ None) × (listing all ≡ text)
no_out all None text is = (refl, (cc))
no_out all (Some pc) text is = absurd (cc)

is_listed : (r : Result (List Placed) DisassembleError) (text : List ℕ) → listing_of_placed r ≡ Ok text → IsListed r text
is_listed (Ok all) text is =
    let none = no_out all (first_out all all) text is in
    record { all = all; placed = refl; inside = none.0; is = none.1 }
is_listed (Err e) text is = absurd (cc)

-- what has a text is a program, whose text it is
pub listed_program : (code text : List ℕ) → Decodes code → disassembly code ≡ Ok text → (all : List Placed) × IsProgram code all × (listing all ≡ text)
listed_program code text d is = elim (cases_Bool (nat_lt MOST_CODE_BYTES (length code))) [
  | inl long ↦ absurd (let e : no_text ≡ some_text text = (simp long at is) in cc)
  | inr short ↦
      let listing_of_placed = is_listed (instructions code) text (simp short at is) in
      let small : length code ≤ MOST_CODE_BYTES = grind (arith, nat_tests) in (
        listing_of_placed.all,
        record {
          short = small;
          stands = placed_stand code (length code) 0 listing_of_placed.all d listing_of_placed.placed (omega arith) (omega arith);
          lands = all_land listing_of_placed.all listing_of_placed.all listing_of_placed.inside;
        },
        listing_of_placed.is,
      )
]
  where
    no_text : Result (List ℕ) DisassembleError
    no_text = Err TooLong
