-- Edges of a vertex in parts, and what they cost.
use Rattle.std.proofs.Common.{◌≡◌, ℕ, zero, suc, ◌+◌, ◌-◌, ◌*◌, ◌<◌, ◌≤◌, List, ◌++◌, length, take, drop, refl, sym, ap, ◌∙◌, arith}
use Rattle.std.proofs.Math.Nat.{mul-add}
use Rattle.std.proofs.lemmas.List.{length-append, take-append-le, take-take}
use Rattle.bpf_image.specs.Program.{Program}
use Rattle.graph_model.specs.Graph.{Graph}
use Rattle.map_model.specs.declared.reduction.Reduction.{Reduction}
use Rattle.map_model.specs.EdgeMap.{reduction_of_numbers}
use Rattle.edge_fold.specs.Numbers.{combination}
use Rattle.edge_fold.specs.declared.budget.TheConstants.{EDGE_COST}
use Rattle.edge_fold.proofs.Reductions.{reduced-append}
use Rattle.edge_fold.proofs.Numbers.{IsFolded, found}
use Rattle.edge_fold.proofs.Written.{more_found}
use Rattle.map_model.specs.EdgeMap.{Inputs}

-- so many edges more
pub some_folded : (r : Reduction) (p : Program) (g : Graph) (inputs : Inputs) (source first : ℕ) (targets : List ℕ) (place count so_far value next : ℕ)
    → IsFolded r p g inputs source first targets place so_far → place + count ≤ length targets
    → value ≡ reduction_of_numbers r (found p g inputs source (first + place) (take count (drop place targets)))
    → length (found p g inputs source (first + place) (take count (drop place targets))) ≡ count
    → next ≡ combination r so_far value → IsFolded r p g inputs source first targets (place + count) next
some_folded r p g inputs source first targets place count so_far value next done fits row long combines =
    let early = found p g inputs source first (take place targets) in
    let late = found p g inputs source (first + place) (take count (drop place targets)) in
    let more : found p g inputs source first (take (place + count) targets) ≡ early ++ late = more_found p g inputs source first targets place count done.within in
    record {
      value = combines ∙ ap (λ k. combination r k value) done.value ∙ ap (combination r (reduction_of_numbers r early)) row
          ∙ sym (reduced-append r early late) ∙ ap (reduction_of_numbers r) (sym more);
      count = ap length more ∙ length-append early late ∙ ap (λ n. n + length late) done.count ∙ ap (λ n. place + n) long;
      within = fits;
    }

-- what is left of a budget, after so many edges more
pub more_paid : (k at count old now cost new : ℕ) → old ≤ now + k * at → cost ≤ k * count → now ≤ new + cost → old ≤ new + k * (at + count)
more_paid k at count old now cost new before some paid = omega (arith, before, some, paid, mul-add k at count)

-- and no more than that is left
pub more_spent : (at count old now cost new : ℕ) → now ≤ old - EDGE_COST * at → EDGE_COST * count ≤ cost → new ≤ now - cost → new ≤ old - EDGE_COST * (at + count)
more_spent at count old now cost new before some spent = omega (arith, before, some, spent)

-- the first of a row that stands behind a place
pub first_of_row : (targets slice left : List ℕ) (place n : ℕ) → drop place targets ≡ slice ++ left → n ≤ length slice → take n (drop place targets) ≡ take n slice
first_of_row targets slice left place n is few = ap (take n) is ∙ take-append-le n slice left few

-- the first of some of a row
pub first_of_some : (targets slice left : List ℕ) (place count n : ℕ) → drop place targets ≡ slice ++ left → n ≤ count → count ≤ length slice
    → take n (take count slice) ≡ take n (drop place targets)
first_of_some targets slice left place count n is few fits =
    take-take n count slice few ∙ sym (first_of_row targets slice left place n is (omega (arith, few, fits)))

-- all of some, where it goes on
pub all_of : (count all budget : ℕ) → count ≤ all → (count < all → budget ≡ 0) → 0 < budget → count ≡ all
all_of zero zero budget few stops more = refl
all_of zero (suc m) budget few stops more = absurd (omega (arith, stops (omega arith), more))
all_of (suc n) zero budget few stops more = absurd (omega (arith, few))
all_of (suc n) (suc m) budget few stops more = ap suc (all_of n m budget (omega (arith, few)) (λ h. stops (omega (arith, h))) more)
