-- The instruction after another in its function lies ahead; and code of one function has no more pairs than units.
use Rattle.std.proofs.Common.{◌≡◌, ℕ, zero, suc, ◌+◌, ◌-◌, ◌≤◌, [], false, ltb, Some, refl, ap, ◌∙◌, arith, inl, inr}
use Rattle.std.specs.Prelude.{pos}
use Rattle.std.proofs.lemmas.Bool.{cases_Bool, ltb-true}
use Rattle.bpf_isa.specs.declared.instruction.Instruction.{Instruction}
use Rattle.bpf_isa.specs.declared.limits.TheConstants.{MOST_UNITS}
use Rattle.bpf_isa.specs.Encoding.{units_of}
use Rattle.bpf_image.specs.Program.{Program, units}
use Rattle.verifier.specs.Listing.{instruction_at}
use Rattle.verifier.specs.Functions.{function_end}
use Rattle.verifier.specs.Walks.{IsOneOf, following_below, following, is_call, greatest, weight_over, weight_from, count_rule, pairs}
use Rattle.verifier.specs.Tables.{HasOneFunction}
use Rattle.verifier.specs.Verdict.{most_pairs}
use Rattle.verifier.proofs.Listed.{inside, next_starts, stands_at, units_some}
use Rattle.verifier.proofs.Flowing.{Flows, Ahead, end_inside, one_ahead}
use Rattle.verifier.proofs.Weighing.{LeadsAhead, standing, none_over, weighs_at}
use Rattle.verifier.proofs.OneFunction.{no_pcs}

before_end : (p : Program) (pc : ℕ) (i : Instruction) → Flows p → instruction_at p pc ≡ Some i → pc + units_of i + 1 ≤ function_end p pc → Ahead p pc (function_end p pc) (pos (pc + units_of i))
before_end p pc i passed found lt =
    let end = end_inside p pc (inside p pc i found) in
    let some = units_some i in
    let there = stands_at p (pc + units_of i) passed.decodes (next_starts p pc i found) (omega (arith, lt, end)) in
    record { place = pc + units_of i; is = refl; behind = omega (arith, some); under = omega (arith, lt); instruction = there.0; found = there.1 }

pub following_ahead : (p : Program) → Flows p → LeadsAhead p (following p)
following_ahead p passed pc i z found one =
    elim (cases_Bool (ltb (pc + units_of i) (function_end p pc))) [
      | inl is ↦
          let lt = ltb-true (pc + units_of i) (function_end p pc) is in
          one_ahead p pc (function_end p pc) z (pos (pc + units_of i)) (before_end p pc i passed found (omega (arith, lt))) (rw is at one)
      | inr not_is ↦ absurd (let none : IsOneOf z [] = (rw not_is at one) in none)
    ]

-- ---- no more pairs than units, where the code is one function

greatest_below : (f : ℕ → ℕ) (end n pc : ℕ) (i : Instruction) → ((q : ℕ) → f q ≤ n) → greatest f (following_below end i pc) ≤ n
greatest_below f end n pc i few =
    elim (cases_Bool (ltb (pc + units_of i) end)) [
      | inl is ↦ rw is (let here = few (pc + units_of i) in omega (arith, here))
      | inr not_is ↦ rw not_is (omega arith)
    ]

pairs_at : (p : Program) (n pc : ℕ) (i : Instruction) → HasOneFunction p → instruction_at p pc ≡ Some i → weight_over count_rule (following p) p (suc n) pc ≡ count_rule 0 (greatest (weight_over count_rule (following p) p n) (following p i pc))
pairs_at p n pc i one found =
    let plain : is_call i ≡ false = (let h = one pc in rw found at h) in
    weighs_at count_rule (following p) p n pc i found ∙ ap (λ zs. count_rule (greatest (weight_over count_rule (following p) p n) zs) (greatest (weight_over count_rule (following p) p n) (following p i pc))) (no_pcs pc i plain)

pairs_few : (p : Program) (n pc : ℕ) → HasOneFunction p → weight_over count_rule (following p) p n pc ≤ n
unfolding weight_over
pairs_few p zero pc one = omega arith
pairs_few p (suc n) pc one =
    elim (standing p pc) [
      | inl none ↦ (let zero_weight = none_over count_rule (following p) p (suc n) pc none in omega (arith, zero_weight))
      | inr found ↦
          let is = pairs_at p n pc found.0 one found.1 in
          let rest = greatest_below (weight_over count_rule (following p) p n) (function_end p pc) n pc found.0 (λ q. pairs_few p n q one) in
          omega (arith, is, rest)
    ]

pub pairs_of_one : (p : Program) → HasOneFunction p → units p ≤ MOST_UNITS → pairs p ≤ most_pairs
unfolding weight_from
pairs_of_one p one few =
    let same : pairs p ≡ weight_over count_rule (following p) p (units p - 0) 0 = refl in
    let below = pairs_few p (units p - 0) 0 one in
    omega (arith, same, below, few)
