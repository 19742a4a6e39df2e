-- The table of weights, as it is filled from the end. Weights that are too great are not told apart there.
use Rattle.std.proofs.Common.{◌≡◌, ℕ, ◌+◌, ◌<◌, ◌≤◌, List, [], ◌∷◌, length, get_or, set, Option, Some, None, refl, sym, ap, ap₂, ◌∙◌, arith, inl, inr}
use Rattle.std.specs.Prelude.{ℤ, min, unsigned_abs, IfSome}
use Rattle.std.proofs.lemmas.Bool.{cases_eq}
use Rattle.std.proofs.lemmas.List.{get_or_past, get_or-set_same, get_or-set_other}
use Rattle.bpf_isa.specs.declared.instruction.Instruction.{Instruction}
use Rattle.bpf_image.specs.Program.{Program, units}
use Rattle.verifier.specs.declared.weights.Measure.{Measure}
use Rattle.verifier.specs.declared.weights.Measure.TheVariants.{Instructions, Frames, Pairs}
use Rattle.verifier.specs.Listing.{instruction_at}
use Rattle.verifier.specs.Functions.{function_end}
use Rattle.verifier.specs.Walks.{greatest, called_pcs, weight_by, weight_from}
use Rattle.verifier.specs.Tables.{rule_of, successors, successors_below, ceiling, capped_weight}
use Rattle.verifier.proofs.Listed.{none_past}
use Rattle.verifier.proofs.Flowing.{Flows, call_ahead}
use Rattle.verifier.proofs.Weighing.{LeadsAhead, next_ahead, greatest_same, weight_is, weight_none}
use Rattle.verifier.proofs.Pairs.{following_ahead}

-- what comes after an instruction for a pass lies ahead
leads_of : (m : Measure) (p : Program) → Flows p → LeadsAhead p (successors m p)
leads_of Instructions p passed = next_ahead p passed
leads_of Frames p passed = next_ahead p passed
leads_of Pairs p passed = following_ahead p passed

same_successors : (m : Measure) (p : Program) (i : Instruction) (pc end : ℕ) → end ≡ function_end p pc → successors_below m end i pc ≡ successors m p i pc
same_successors Instructions p i pc end is = refl
same_successors Frames p i pc end is = refl
same_successors Pairs p i pc end is = rw is refl

-- the weights of the pcs from one on
abbrev pub WeightsFrom : Measure → Program → List ℕ → ℕ → Type 0
WeightsFrom m p weights n = (q : ℕ) → n ≤ q → get_or weights q 0 ≡ capped_weight m p q

capped_none : (m : Measure) (p : Program) (pc : ℕ) → instruction_at p pc ≡ None → capped_weight m p pc ≡ 0
capped_none m p pc none = (let zero_weight = weight_none (rule_of m) (successors m p) p pc none in omega (arith, zero_weight))

pub past_end : (m : Measure) (p : Program) (weights : List ℕ) → length weights ≡ units p → WeightsFrom m p weights (units p)
past_end m p weights size q past =
    get_or_past weights q 0 (omega (arith, size, past)) ∙ sym (capped_none m p q (none_past p q past))

greatest_capped : (f : ℕ → ℕ) (c : ℕ) (zs : List ℤ) → greatest (λ q. min (f q) c) zs ≡ min (greatest f zs) c
greatest_capped f c [] = omega arith
greatest_capped f c (z ∷ zs) = (let rest = greatest_capped f c zs in omega (arith, rest))

rule_capped : (m : Measure) (a b : ℕ) → min (rule_of m (min a (ceiling m)) (min b (ceiling m))) (ceiling m) ≡ min (rule_of m a b) (ceiling m)
rule_capped Instructions a b = omega arith
rule_capped Frames a b = omega arith
rule_capped Pairs a b = omega arith

-- the greatest in the table is the greatest, or too great
called_table : (m : Measure) (p : Program) (weights : List ℕ) (pc : ℕ) (i : Instruction) → Flows p → instruction_at p pc ≡ Some i → WeightsFrom m p weights (pc + 1) → greatest (λ q. get_or weights q 0) (called_pcs i pc) ≡ min (greatest (weight_from (rule_of m) (successors m p) p) (called_pcs i pc)) (ceiling m)
called_table m p weights pc i passed found known =
    greatest_same (λ q. get_or weights q 0) (capped_weight m p) (called_pcs i pc) (λ z one. (let to = call_ahead p pc i z passed found one in let at : unsigned_abs z ≡ to.place = ap unsigned_abs to.is in rw at (known to.place (omega (arith, to.behind)))))
    ∙ greatest_capped (weight_from (rule_of m) (successors m p) p) (ceiling m) (called_pcs i pc)

next_table : (m : Measure) (p : Program) (weights : List ℕ) (pc : ℕ) (i : Instruction) → Flows p → instruction_at p pc ≡ Some i → WeightsFrom m p weights (pc + 1) → greatest (λ q. get_or weights q 0) (successors m p i pc) ≡ min (greatest (weight_from (rule_of m) (successors m p) p) (successors m p i pc)) (ceiling m)
next_table m p weights pc i passed found known =
    greatest_same (λ q. get_or weights q 0) (capped_weight m p) (successors m p i pc) (λ z one. (let to = leads_of m p passed pc i z found one in let at : unsigned_abs z ≡ to.place = ap unsigned_abs to.is in rw at (known to.place (omega (arith, to.behind)))))
    ∙ greatest_capped (weight_from (rule_of m) (successors m p) p) (ceiling m) (successors m p i pc)

-- no weight in the table is above the ceiling
called_most : (m : Measure) (p : Program) (weights : List ℕ) (pc : ℕ) (i : Instruction) → Flows p → instruction_at p pc ≡ Some i → WeightsFrom m p weights (pc + 1) → greatest (λ q. get_or weights q 0) (called_pcs i pc) ≤ ceiling m
called_most m p weights pc i passed found known = (let same = called_table m p weights pc i passed found known in omega (arith, same))

next_most : (m : Measure) (p : Program) (weights : List ℕ) (pc : ℕ) (i : Instruction) → Flows p → instruction_at p pc ≡ Some i → WeightsFrom m p weights (pc + 1) → greatest (λ q. get_or weights q 0) (successors m p i pc) ≤ ceiling m
next_most m p weights pc i passed found known = (let same = next_table m p weights pc i passed found known in omega (arith, same))

-- the weight of an instruction by the weights after it
weighed_at : (m : Measure) (p : Program) (weights : List ℕ) (pc : ℕ) (i : Instruction) → Flows p → instruction_at p pc ≡ Some i → WeightsFrom m p weights (pc + 1) → min (rule_of m (greatest (λ q. get_or weights q 0) (called_pcs i pc)) (greatest (λ q. get_or weights q 0) (successors m p i pc))) (ceiling m) ≡ capped_weight m p pc
weighed_at m p weights pc i passed found known =
    let called = called_table m p weights pc i passed found known in
    let next = next_table m p weights pc i passed found known in
    ap₂ (λ a b. min (rule_of m a b) (ceiling m)) called next
    ∙ rule_capped m (greatest (weight_from (rule_of m) (successors m p) p) (called_pcs i pc)) (greatest (weight_from (rule_of m) (successors m p) p) (successors m p i pc))
    ∙ ap (λ w. min w (ceiling m)) (sym (weight_is (rule_of m) (successors m p) p pc i passed (leads_of m p passed) found))

-- of what starts at a pc, or does not
pub called_few : (m : Measure) (p : Program) (weights : List ℕ) (pc : ℕ) (o : Option Instruction) → Flows p → o ≡ instruction_at p pc → WeightsFrom m p weights (pc + 1) → IfSome o (λ i. greatest (λ q. get_or weights q 0) (called_pcs i pc) ≤ ceiling m)
called_few m p weights pc None passed found known = tt
called_few m p weights pc (Some i) passed found known = called_most m p weights pc i passed (sym found) known

pub next_few : (m : Measure) (p : Program) (weights : List ℕ) (pc end : ℕ) (o : Option Instruction) → Flows p → o ≡ instruction_at p pc → end ≡ function_end p pc → WeightsFrom m p weights (pc + 1) → IfSome o (λ i. greatest (λ q. get_or weights q 0) (successors_below m end i pc) ≤ ceiling m)
next_few m p weights pc end None passed found at known = tt
next_few m p weights pc end (Some i) passed found at known =
    let same = same_successors m p i pc end at in
    rw same (next_most m p weights pc i passed (sym found) known)

pub weighed : (m : Measure) (p : Program) (weights : List ℕ) (pc end : ℕ) (o : Option Instruction) → Flows p → o ≡ instruction_at p pc → end ≡ function_end p pc → WeightsFrom m p weights (pc + 1) → min (weight_by (rule_of m) (successors_below m end) (λ q. get_or weights q 0) o pc) (ceiling m) ≡ capped_weight m p pc
weighed m p weights pc end None passed found at known = (let none = capped_none m p pc (sym found) in omega (arith, none))
weighed m p weights pc end (Some i) passed found at known =
    let same = same_successors m p i pc end at in
    rw same (weighed_at m p weights pc i passed (sym found) known)

pub more_weights : (m : Measure) (p : Program) (weights : List ℕ) (pc n : ℕ) → pc < length weights → n ≡ capped_weight m p pc → WeightsFrom m p weights (pc + 1) → WeightsFrom m p (set weights pc n) pc
more_weights m p weights pc n lt is known q le =
    elim (cases_eq q pc) [
      | inl same ↦ rw same (get_or-set_same weights pc n 0 lt ∙ is)
      | inr other ↦ get_or-set_other weights pc q n 0 other ∙ known q (omega (arith, le, other))
    ]
