-- The lines of a program: the places of its labels, and its code.
use Rattle.std.proofs.Common.{◌≡◌, ◌≢◌, ◌≤◌, ◌<◌, ◌+◌, ◌*◌, ◌^◌, ℕ, Bool, true, false, List, [], ◌∷◌, length, refl, ap, ◌∙◌, inl, inr, arith}
use Rattle.std.specs.Prelude.{◌==◌, Some}
use Rattle.std.specs.Fmt.{decimal}
use Rattle.std.proofs.lemmas.Fmt.{decimal_injective}
use Rattle.std.proofs.lemmas.Bool.{cases_Bool}
use Rattle.std.proofs.lemmas.Bool.Decides.{nat_tests}
use Rattle.bpf_isa.specs.declared.limits.TheConstants.{MOST_CODE_BYTES}
use Rattle.bpf_isa.specs.declared.instruction.Distance.TheVariants as distances
use Rattle.bpf_isa.specs.declared.instruction.Instruction.{Instruction}
use Rattle.bpf_isa.specs.declared.instruction.Instruction.TheVariants.{Alu, Jump}
use Rattle.bpf_isa.specs.Encoding.{units_of}
use Rattle.bpf_asm.specs.declared.writing.placed.Placed.{Placed}
use Rattle.bpf_asm.specs.declared.writing.placed.Target.{Target}
use Rattle.bpf_asm.specs.Lexing.{same_bytes}
use Rattle.bpf_asm.specs.Statements.{Item, Blank, Labelled}
use Rattle.bpf_asm.specs.Assembly.{item_units, is_label, place_from}
use Rattle.bpf_asm.specs.Writing.{label_text}
use Rattle.bpf_asm.specs.Listing.{is_start, is_target, target}
use Rattle.bpf_asm.specs.Laws.{StandFrom}
use Rattle.bpf_asm.proofs.Placing.{units_some}
use Rattle.bpf_asm.proofs.Instructions.{item_for}

-- ---- where the instructions stand

pub stand_end : (code : List ℕ) (pc : ℕ) (placed : List Placed) → StandFrom code pc placed → 8 * pc ≤ length code
stand_end code pc [] stands = omega arith
stand_end code pc (p ∷ placed) stands = omega (arith, stand_end code (pc + units_of p.instruction) placed stands.2)

pub start_within : (code : List ℕ) (pc k : ℕ) (placed : List Placed) → StandFrom code pc placed → is_start k placed ≡ true → (pc ≤ k) × (8 * k < length code)
start_within code pc k [] stands is = absurd (cc)
start_within code pc k (p ∷ placed) stands is = elim (cases_Bool (p.pc == k)) [
  | inl here ↦
      let same : p.pc ≡ k = grind (arith, nat_tests) in
      let end = stand_end code (pc + units_of p.instruction) placed stands.2 in
      (omega (arith, stands.0), omega (arith, stands.0, units_some p.instruction))
  | inr other ↦
      let rest : is_start k placed ≡ true = (simp other at is) in
      let within = start_within code (pc + units_of p.instruction) k placed stands.2 rest in
      (omega arith, within.1)
]

-- ---- what the lines say

-- with a label before them
abbrev pub labelled : Bool → ℕ → List Item → List Item
labelled true pc items = Labelled (label_text pc) ∷ items
labelled false pc items = items

-- the lines of some instructions of a program, and the empty line at the end
abbrev pub items_of : List Placed → List Placed → List Item
items_of all [] = Blank ∷ []
items_of all (p ∷ placed) = labelled (is_target p.pc all) p.pc (item_for p.instruction (target p) ∷ items_of all placed)

pub units_for : (i : Instruction) (t : Target) → item_units (item_for i t) ≡ units_of i
units_for (Jump (distances.Near distance)) t = refl
units_for (Jump (distances.Far distance)) t = refl
units_for (Alu width operation destination right) t = refl
units_for _ t = refl

pub no_label : (q : List ℕ) (i : Instruction) (t : Target) → is_label q (item_for i t) ≡ false
no_label q (Jump (distances.Near distance)) t = refl
no_label q (Jump (distances.Far distance)) t = refl
no_label q (Alu width operation destination right) t = refl
no_label q _ t = refl

-- ---- names of labels

pub same_itself : (text : List ℕ) → same_bytes text text ≡ true
same_itself [] = refl
same_itself (b ∷ text) =
    let here : (b == b) ≡ true = grind (arith, nat_tests) in
    simp (here, same_itself text)

same_is : (as' bs : List ℕ) → same_bytes as' bs ≡ true → as' ≡ bs
same_is [] [] same = refl
same_is [] (b ∷ bs) same = absurd (cc)
same_is (a ∷ as') [] same = absurd (cc)
same_is (a ∷ as') (b ∷ bs) same = elim (cases_Bool (a == b)) [
  | inl here ↦
      let first : a ≡ b = grind (arith, nat_tests) in
      let rest : as' ≡ bs = same_is as' bs (simp here at same) in
      cc
  | inr other ↦ absurd (let e : false ≡ true = (simp other at same) in cc)
]

pub other_label : (m k : ℕ) → m < 2 ^ 64 → k < 2 ^ 64 → m ≢ k → same_bytes (label_text m) (label_text k) ≡ false
other_label m k small small' apart = elim (cases_Bool (same_bytes (label_text m) (label_text k))) [
  | inl same ↦ absurd (
      let texts = same_is (label_text m) (label_text k) same in
      let digits : decimal m ≡ decimal k = cc in
      apart (decimal_injective m k small small' digits)
      )
  | inr other ↦ other
]

-- ---- the place of a label

-- past an instruction
past : (all : List Placed) (k pc : ℕ) (i : Instruction) (t : Target) (rest : List Item) → place_from pc (label_text k) (item_for i t ∷ rest) ≡ place_from (pc + units_of i) (label_text k) rest
past all k pc i t rest =
    let other = no_label (label_text k) i t in
    simp other (ap (λ (n : ℕ). place_from (pc + n) (label_text k) rest) (units_for i t))

past_label : (m k pc : ℕ) (marked : Bool) (rest : List Item) → m < 2 ^ 64 → k < 2 ^ 64 → m ≢ k → place_from pc (label_text k) (labelled marked m rest) ≡ place_from pc (label_text k) rest
past_label m k pc false rest small small' apart = refl
past_label m k pc true rest small small' apart =
    let other = other_label m k small small' apart in
    let e : pc + 0 ≡ pc = omega arith in
    simp other (ap (λ (n : ℕ). place_from n (label_text k) rest) e)

at_label : (k pc : ℕ) (marked : Bool) (rest : List Item) → marked ≡ true → place_from pc (label_text k) (labelled marked k rest) ≡ Some pc
at_label k pc false rest is = absurd (cc)
at_label k pc true rest is = simp (same_itself (label_text k))

pub place_is : (code : List ℕ) (all : List Placed) (k pc : ℕ) (placed : List Placed) → length code ≤ MOST_CODE_BYTES → StandFrom code pc placed → is_start k placed ≡ true → is_target k all ≡ true → place_from pc (label_text k) (items_of all placed) ≡ Some k
place_is code all k pc [] short stands start marked = absurd (cc)
place_is code all k pc (p ∷ placed) short stands start marked = elim (cases_Bool (p.pc == k)) [
  | inl here ↦
      let same : p.pc ≡ k = grind (arith, nat_tests) in
      let where' : pc ≡ k = omega (arith, stands.0) in
      let is : is_target p.pc all ≡ true = ap (λ (n : ℕ). is_target n all) same ∙ marked in
      ap (λ (n : ℕ). place_from pc (label_text k) (labelled (is_target p.pc all) n (item_for p.instruction (target p) ∷ items_of all placed))) same
      ∙ at_label k pc (is_target p.pc all) (item_for p.instruction (target p) ∷ items_of all placed) is ∙ ap (λ (n : ℕ). Some n) where'
  | inr other ↦
      let rest : is_start k placed ≡ true = (simp other at start) in
      let within = start_within code (pc + units_of p.instruction) k placed stands.2 rest in
      let apart : p.pc ≢ k = grind (arith, nat_tests) in
      past_label p.pc k pc (is_target p.pc all) (item_for p.instruction (target p) ∷ items_of all placed) (omega (arith, stands.0)) (omega arith) apart
      ∙ past all k pc p.instruction (target p) (items_of all placed) ∙ place_is code all k (pc + units_of p.instruction) placed short stands.2 rest marked
]
