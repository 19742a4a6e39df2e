-- The lines of a program mean its code.
use Rattle.std.proofs.Common.{◌≡◌, ◌≤◌, ◌+◌, ◌*◌, ℕ, Bool, true, false, List, [], ◌∷◌, ◌++◌, take, drop, length, refl, sym, ap, subst, ◌∙◌, append_assoc, arith}
use Rattle.std.specs.Prelude.{ℤ, pos, negsuc, ◌+ℤ◌, ◌==◌, ◌||◌, Option, Some, None, Result, Ok}
use Rattle.std.specs.List.{AllByRecursion}
use Rattle.std.proofs.lemmas.Bool.Decides.{nat_tests}
use Rattle.std.proofs.lemmas.List.{drop_all, take-append-drop, drop-drop}
use Rattle.std.proofs.lemmas.List.Folds.{list_any-append}
use Rattle.bpf_isa.specs.declared.limits.TheConstants.{MOST_CODE_BYTES}
use Rattle.bpf_isa.specs.Encoding.{spelling, units_of}
use Rattle.bpf_asm.specs.declared.errors.TextCause.{TextCause}
use Rattle.bpf_asm.specs.declared.errors.AssembleError.{AssembleError}
use Rattle.bpf_asm.specs.declared.writing.placed.Placed.{Placed}
use Rattle.bpf_asm.specs.declared.writing.placed.Target.{Target}
use Rattle.bpf_asm.specs.declared.writing.placed.Target.TheVariants.{At}
use Rattle.bpf_asm.specs.Statements.{Item}
use Rattle.bpf_asm.specs.Assembly.{item_units, item_bytes, bytes_first, code_from}
use Rattle.bpf_asm.specs.Writing.{distance_of, landing, target_at, target_text}
use Rattle.bpf_asm.specs.Listing.{is_start, is_target, target, lands_at}
use Rattle.bpf_asm.specs.Laws.{StandFrom, LandsIn}
use Rattle.bpf_asm.proofs.Spoken.{Reads}
use Rattle.bpf_asm.proofs.Operands.{label_reads}
use Rattle.bpf_asm.proofs.Instructions.{HasLabel, target_argument, item_for}
use Rattle.bpf_asm.proofs.Distances.{IsResolved, bytes_again}
use Rattle.bpf_asm.proofs.Placing.{units_some}
use Rattle.bpf_asm.proofs.LabelPlaces.{labelled, items_of, units_for, stand_end, start_within, place_is}

-- ---- targets

-- a target that is a unit is marked as one
abbrev pub IsMarked : List Placed → Target → Type 0
IsMarked all t = (k : ℕ) → t ≡ At k → is_target k all ≡ true

or_true : (a b c : Bool) → b ≡ true → (a || (b || c)) ≡ true
or_true true b c is = refl
or_true false true c is = refl
or_true false false c is = absurd (cc)

pub marked : (all front placed : List Placed) → all ≡ front ++ placed → AllByRecursion (λ (p : Placed). IsMarked all (target p)) placed
marked all front [] is = tt
marked all front (p ∷ placed) is = (
  λ k e.
      let here : lands_at k (target p) ≡ true = ap (lands_at k) e ∙ (let same : (k == k) ≡ true = grind (arith, nat_tests) in same) in
      ap (λ (x : List Placed). is_target k x) is ∙ list_any-append (λ (q : Placed). lands_at k (target q)) front (p ∷ placed) ∙ or_true (is_target k front) (lands_at k (target p)) (is_target k placed) here,
  marked all (front ++ (p ∷ [])) placed (is ∙ sym (append_assoc front (p ∷ []) placed)),
)

-- a jump's target is the start of an instruction, and marked
landing_at : (all : List Placed) (z : ℤ) → LandsIn all (landing z) → IsMarked all (landing z) → (k : ℕ) × (landing z ≡ At k) × (is_start k all ≡ true) × (is_target k all ≡ true)
landing_at all (pos k) lands marks = (k, refl, lands, marks k refl)
landing_at all (negsuc n) lands marks = absurd lands

pub resolves : (code : List ℕ) (all : List Placed) (pc : ℕ) (o : Option ℤ) → length code ≤ MOST_CODE_BYTES → StandFrom code 0 all → LandsIn all (target_at pc o) → IsMarked all (target_at pc o) → IsResolved (items_of all all) pc o
resolves code all pc None short stands lands marks = tt
resolves code all pc (Some n) short stands lands marks =
    let at = landing_at all (pos (pc + 1) +ℤ n) lands marks in
    record {
      unit = at.0;
      lands = at.1;
      small = omega (arith, (start_within code 0 at.0 all stands at.2).1);
      stands = place_is code all at.0 0 all short stands at.2 at.3;
    }

pub has_label : (code : List ℕ) (all : List Placed) (pc : ℕ) (o : Option ℤ) → length code ≤ MOST_CODE_BYTES → StandFrom code 0 all → LandsIn all (target_at pc o) → IsMarked all (target_at pc o) → HasLabel o (target_at pc o)
has_label code all pc None short stands lands marks = tt
has_label code all pc (Some n) short stands lands marks =
    let at = landing_at all (pos (pc + 1) +ℤ n) lands marks in
    subst (λ (t : Target). Reads (target_text t) (target_argument t)) (sym at.1) (label_reads at.0 (omega (arith, (start_within code 0 at.0 all stands at.2).1)))

-- ---- code

code_labelled : (items : List Item) (bytes : List ℕ) (pc m : ℕ) (marked : Bool) (rest : List Item) → ((line : ℕ) → code_from items line pc rest ≡ Ok bytes) → (line : ℕ) → code_from items line pc (labelled marked m rest) ≡ Ok bytes
code_labelled items bytes pc m false rest code line = code line
code_labelled items bytes pc m true rest code line =
    let e : pc + 0 ≡ pc = omega arith in
    let next = ap (λ (n : ℕ). code_from items (line + 1) n rest) e ∙ code (line + 1) in
    simp next

code_plain : (items : List Item) (pc line : ℕ) (i : Item) (rest : List Item) (front behind : List ℕ) → item_bytes items pc i ≡ Ok front → code_from items (line + 1) (pc + item_units i) rest ≡ Ok behind → code_from items line pc (i ∷ rest) ≡ Ok (front ++ behind)
code_plain items pc line i rest front behind here next = ap (λ (r : Result (List ℕ) TextCause). bytes_first line r (code_from items (line + 1) (pc + item_units i) rest)) here ∙ ap (bytes_first line (Ok front)) next

abbrev some_bytes : List ℕ → Result (List ℕ) AssembleError
some_bytes bytes = Ok bytes

-- from each pc on, the lines mean what is left of the code
pub code_again : (code : List ℕ) (all : List Placed) (pc : ℕ) (placed : List Placed) → length code ≤ MOST_CODE_BYTES → StandFrom code pc placed → AllByRecursion (λ (p : Placed). IsResolved (items_of all all) p.pc (distance_of p.instruction)) placed → (line : ℕ) → code_from (items_of all all) line pc (items_of all placed) ≡ Ok (drop (8 * pc) code)
code_again code all pc [] short stands resolved line = ap some_bytes (sym (drop_all (8 * pc) code (omega arith)))
code_again code all pc (p ∷ placed) short stands resolved line =
    let i = p.instruction in
    let items = items_of all all in
    let next = code_again code all (pc + units_of i) placed short stands.2 resolved.1 in
    let end = stand_end code (pc + units_of i) placed stands.2 in
    let bytes : item_bytes items pc (item_for i (target p)) ≡ Ok (spelling i) = ap (λ (n : ℕ). item_bytes items n (item_for i (target p))) (sym stands.0) ∙ bytes_again items p.pc i (omega (arith, stands.0, end, units_some i)) resolved.0 in
    let over : 8 * (pc + units_of i) ≡ 8 * pc + 8 * units_of i = omega arith in
    let behind : drop (8 * (pc + units_of i)) code ≡ drop (8 * units_of i) (drop (8 * pc) code) = ap (λ (n : ℕ). drop n code) over ∙ sym (drop-drop (8 * units_of i) (8 * pc) code) in
    let whole : spelling i ++ drop (8 * (pc + units_of i)) code ≡ drop (8 * pc) code = ap (λ (x : List ℕ). x ++ drop (8 * (pc + units_of i)) code) (sym stands.1.spelled) ∙ ap (λ (x : List ℕ). take (8 * units_of i) (drop (8 * pc) code) ++ x) behind ∙ take-append-drop (8 * units_of i) (drop (8 * pc) code) in
    code_labelled items (drop (8 * pc) code) pc p.pc (is_target p.pc all) (item_for i (target p) ∷ items_of all placed) (λ line.
    code_plain items pc line (item_for i (target p)) (items_of all placed) (spelling i) (drop (8 * (pc + units_of i)) code) bytes (ap (λ (n : ℕ). code_from items (line + 1) (pc + n) (items_of all placed)) (units_for i (target p)) ∙ next (line + 1)) ∙ ap some_bytes whole) line
