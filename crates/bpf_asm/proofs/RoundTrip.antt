-- A program's text means its code.
use Rattle.std.proofs.Common.{◌≡◌, ◌≤◌, ◌+◌, ℕ, List, [], ◌∷◌, length, refl, ap, ◌∙◌, arith}
use Rattle.std.specs.Prelude.{Ok}
use Rattle.std.specs.List.{AllByRecursion}
use Rattle.bpf_isa.specs.declared.limits.TheConstants.{MOST_CODE_BYTES}
use Rattle.bpf_isa.specs.Encoding.{units_of}
use Rattle.bpf_asm.specs.declared.writing.placed.Placed.{Placed}
use Rattle.bpf_asm.specs.Assembly.{items_from, code_of_items, assembly}
use Rattle.bpf_asm.specs.Writing.{distance_of}
use Rattle.bpf_asm.specs.Listing.{target, listing}
use Rattle.bpf_asm.specs.Laws.{StandFrom, LandsIn, IsProgram}
use Rattle.bpf_asm.proofs.Instructions.{line_says, line_whole}
use Rattle.bpf_asm.proofs.Distances.{IsResolved}
use Rattle.bpf_asm.proofs.LabelPlaces.{items_of, stand_end}
use Rattle.bpf_asm.proofs.CodeAgain.{IsMarked, marked, resolves, has_label, code_again}
use Rattle.bpf_asm.proofs.ListedLines.{IsOneLine, lines_are}
use Rattle.bpf_asm.proofs.LinesRead.{IsSpoken, lines_read}

all_resolved : (code : List ℕ) (all placed : List Placed) → length code ≤ MOST_CODE_BYTES → StandFrom code 0 all → AllByRecursion (λ (p : Placed). LandsIn all (target p)) placed → AllByRecursion (λ (p : Placed). IsMarked all (target p)) placed → AllByRecursion (λ (p : Placed). IsResolved (items_of all all) p.pc (distance_of p.instruction)) placed
all_resolved code all [] short stands lands marks = tt
all_resolved code all (p ∷ placed) short stands lands marks =
    (resolves code all p.pc (distance_of p.instruction) short stands lands.0 marks.0, all_resolved code all placed short stands lands.1 marks.1)

all_spoken : (code : List ℕ) (all : List Placed) (pc : ℕ) (placed : List Placed) → length code ≤ MOST_CODE_BYTES → StandFrom code 0 all → StandFrom code pc placed → AllByRecursion (λ (p : Placed). LandsIn all (target p)) placed → AllByRecursion (λ (p : Placed). IsMarked all (target p)) placed → AllByRecursion IsSpoken placed
all_spoken code all pc [] short stands from lands marks = tt
all_spoken code all pc (p ∷ placed) short stands from lands marks =
    let label = has_label code all p.pc (distance_of p.instruction) short stands lands.0 marks.0 in
    (line_says p.pc p.instruction from.1.fits label, all_spoken code all (pc + units_of p.instruction) placed short stands from.2 lands.1 marks.1)

all_one_line : (code : List ℕ) (all : List Placed) (pc : ℕ) (placed : List Placed) → length code ≤ MOST_CODE_BYTES → StandFrom code 0 all → StandFrom code pc placed → AllByRecursion (λ (p : Placed). LandsIn all (target p)) placed → AllByRecursion (λ (p : Placed). IsMarked all (target p)) placed → AllByRecursion IsOneLine placed
all_one_line code all pc [] short stands from lands marks = tt
all_one_line code all pc (p ∷ placed) short stands from lands marks =
    let label = has_label code all p.pc (distance_of p.instruction) short stands lands.0 marks.0 in
    let end = stand_end code (pc + units_of p.instruction) placed from.2 in
    let one : IsOneLine p = record {
      small = omega (arith, from.0, end);
      inner = line_whole p.pc p.instruction from.1.fits label;
    } in
    (one, all_one_line code all (pc + units_of p.instruction) placed short stands from.2 lands.1 marks.1)

pub program_assembles : (code : List ℕ) (all : List Placed) → IsProgram code all → assembly (listing all) ≡ Ok code
program_assembles code all program =
    let marks = marked all [] all refl in
    let lines = lines_are all all (all_one_line code all 0 all program.short program.stands program.stands program.lands marks) in
    let read = lines_read code all program.short program.stands (all_spoken code all 0 all program.short program.stands program.stands program.lands marks) in
    let again = code_again code all 0 all program.short program.stands (all_resolved code all all program.short program.stands program.lands marks) 1 in
    ap (λ (x : List (List ℕ)). code_of_items (items_from [] x)) lines ∙ ap code_of_items read ∙ again
