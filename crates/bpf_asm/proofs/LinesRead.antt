-- The lines of a program's text, read.
use Rattle.std.proofs.Common.{◌≡◌, ◌≤◌, ◌<◌, ◌+◌, ◌^◌, ℕ, Bool, true, false, List, [], ◌∷◌, ◌++◌, length, refl, sym, ap, ◌∙◌, append_assoc, append-nil, arith}
use Rattle.std.specs.Prelude.{nat_lt, None, Result, Ok}
use Rattle.std.specs.List.{AllByRecursion}
use Rattle.std.proofs.lemmas.Bool.Decides.{nat_tests}
use Rattle.bpf_isa.specs.declared.limits.TheConstants.{MOST_UNITS, MOST_CODE_BYTES}
use Rattle.bpf_isa.specs.declared.instruction.Distance.TheVariants as distances
use Rattle.bpf_isa.specs.declared.instruction.Instruction.{Instruction}
use Rattle.bpf_isa.specs.declared.instruction.Instruction.TheVariants.{Alu, Jump}
use Rattle.bpf_isa.specs.Encoding.{units_of}
use Rattle.bpf_asm.specs.declared.errors.AssembleError.{AssembleError}
use Rattle.bpf_asm.specs.declared.writing.placed.Placed.{Placed}
use Rattle.bpf_asm.specs.declared.writing.placed.Target.{Target}
use Rattle.bpf_asm.specs.Statements.{Item, Labelled, item}
use Rattle.bpf_asm.specs.Assembly.{item_units, units, place, length_admission, admission, reading_admission, items_from}
use Rattle.bpf_asm.specs.Writing.{label_text, statement_text}
use Rattle.bpf_asm.specs.Listing.{is_target, target}
use Rattle.bpf_asm.specs.Laws.{StandFrom}
use Rattle.bpf_asm.proofs.Lines.{units_more, place_other, label_new}
use Rattle.bpf_asm.proofs.Placing.{units_some}
use Rattle.bpf_asm.proofs.LinesLeft.{read_one}
use Rattle.bpf_asm.proofs.Spoken.{item_label}
use Rattle.bpf_asm.proofs.Operands.{label_is_name}
use Rattle.bpf_asm.proofs.Instructions.{item_for}
use Rattle.bpf_asm.proofs.LabelPlaces.{labelled, items_of, units_for, no_label, other_label, stand_end}
use Rattle.bpf_asm.proofs.ListedLines.{label_first, texts_of}

-- no label from a unit on stands on these lines
abbrev Unplaced : List Item → ℕ → Type 0
Unplaced before pc = (k : ℕ) → pc ≤ k → k < 2 ^ 64 → place (label_text k) before ≡ None

-- ---- a label's line

label_read : (before : List Item) (m : Bool) (k : ℕ) (lines : List (List ℕ)) → k < 2 ^ 64 → place (label_text k) before ≡ None → items_from before (label_first m k lines) ≡ items_from (before ++ labelled m k []) lines
label_read before false k lines small none = ap (λ (x : List Item). items_from x lines) (sym (append-nil before))
label_read before true k lines small none =
    read_one before (label_text k ++ (58 ∷ [])) lines (Labelled (label_text k)) (ap (reading_admission before) (item_label (label_text k) (label_is_name k small)) ∙ label_new before (label_text k) none)

label_units : (before : List Item) (m : Bool) (k : ℕ) → units (before ++ labelled m k []) ≡ units before
label_units before false k = ap units (append-nil before)
label_units before true k = omega (arith, units_more before (Labelled (label_text k)))

label_unplaced : (before : List Item) (m : Bool) (k q : ℕ) → k < 2 ^ 64 → q < 2 ^ 64 → k < q → place (label_text q) before ≡ None → place (label_text q) (before ++ labelled m k []) ≡ None
label_unplaced before false k q small small' less none = ap (place (label_text q)) (append-nil before) ∙ none
label_unplaced before true k q small small' less none = place_other 0 (label_text q) before (Labelled (label_text k)) (other_label k q small small' (omega arith)) ∙ none

-- ---- a statement's line

fitting_is : (before : List Item) (i : Item) → units before + item_units i ≤ MOST_UNITS → length_admission before i ≡ Ok i
fitting_is before i fits =
    let small : nat_lt MOST_UNITS (units before + item_units i) ≡ false = grind (arith, nat_tests) in
    simp small

admitted_is : (before : List Item) (i : Instruction) (t : Target) → admission before (item_for i t) ≡ length_admission before (item_for i t)
admitted_is before (Jump (distances.Near distance)) t = refl
admitted_is before (Jump (distances.Far distance)) t = refl
admitted_is before (Alu width operation destination right) t = refl
admitted_is before _ t = refl

statement_read : (before : List Item) (line : List ℕ) (lines : List (List ℕ)) (i : Instruction) (t : Target) → item line ≡ Ok (item_for i t) → units before + units_of i ≤ MOST_UNITS → items_from before (line ∷ lines) ≡ items_from (before ++ (item_for i t ∷ [])) lines
statement_read before line lines i t says fits =
    read_one before line lines (item_for i t) (ap (reading_admission before) says ∙ admitted_is before i t ∙ fitting_is before (item_for i t) (omega (arith, units_for i t)))

-- ---- all lines

joined : (before : List Item) (m : Bool) (k : ℕ) (i : Item) (rest : List Item) → ((before ++ labelled m k []) ++ (i ∷ [])) ++ rest ≡ before ++ labelled m k (i ∷ rest)
joined before false k i rest = ap (λ (x : List Item). (x ++ (i ∷ [])) ++ rest) (append-nil before) ∙ append_assoc before (i ∷ []) rest
joined before true k i rest =
    append_assoc (before ++ (Labelled (label_text k) ∷ [])) (i ∷ []) rest ∙ append_assoc before (Labelled (label_text k) ∷ []) (i ∷ rest)

abbrev some_items : List Item → Result (List Item) AssembleError
some_items items = Ok items

-- an instruction whose line says it
abbrev pub IsSpoken : Placed → Type 0
IsSpoken p = item (statement_text p.pc p.instruction) ≡ Ok (item_for p.instruction (target p))

read_from : (code : List ℕ) (before : List Item) (pc : ℕ) (program placed : List Placed) → length code ≤ MOST_CODE_BYTES → StandFrom code pc placed → AllByRecursion IsSpoken placed → units before ≡ pc → Unplaced before pc → items_from before (texts_of program placed) ≡ Ok (before ++ items_of program placed)
read_from code before pc program [] short stands says here new = refl
read_from code before pc program (p ∷ placed) short stands says here new =
    let i = p.instruction in
    let m = is_target p.pc program in
    let it = item_for i (target p) in
    let end = stand_end code (pc + units_of i) placed stands.2 in
    let small : p.pc < 2 ^ 64 = omega (arith, stands.0, end) in
    let with_label = before ++ labelled m p.pc [] in
    let next = with_label ++ (it ∷ []) in
    let none = new p.pc (omega (arith, stands.0)) small in
    let first = label_read before m p.pc (statement_text p.pc i ∷ texts_of program placed) small none in
    let units_label = label_units before m p.pc in
    let second = statement_read with_label (statement_text p.pc i) (texts_of program placed) i (target p) says.0 (omega (arith, units_label, end)) in
    let units_next : units next ≡ pc + units_of i = omega (arith, units_more with_label it, units_for i (target p), units_label) in
    let unplaced : Unplaced next (pc + units_of i) = λ q from small'. place_other 0 (label_text q) with_label it (no_label (label_text q) i (target p)) ∙ label_unplaced before m p.pc q small small' (omega (arith, stands.0, units_some i)) (new q (omega arith) small') in
    first ∙ second ∙ read_from code next (pc + units_of i) program placed short stands.2 says.1 units_next unplaced ∙ ap some_items (joined before m p.pc it (items_of program placed))

pub lines_read : (code : List ℕ) (program : List Placed) → length code ≤ MOST_CODE_BYTES → StandFrom code 0 program → AllByRecursion IsSpoken program → items_from [] (texts_of program program) ≡ Ok (items_of program program)
lines_read code program short stands says = read_from code [] 0 program program short stands says refl (λ k from small. refl)
