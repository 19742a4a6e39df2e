-- The place of a vertex among another's neighbours, found by halves.
use Rattle.std.proofs.Common.{◌≡◌, ℕ, zero, suc, ◌<◌, ◌≤◌, true, false, List, [], ◌∷◌, length, get_or, inl, inr, ap, lt-ltb, arith}
use Rattle.std.specs.Prelude.{filter, nat_lt}
use Rattle.std.specs.List.Sorted.{IsStrictlyIncreasing}
use Rattle.std.proofs.lemmas.Bool.{le-ltb, cases_lt}
use Rattle.std.proofs.lemmas.List.Kept.{AllPairs-from_increasing}

-- where the first are below a number and no later one is, so many are below it
pub count_below : (xs : List ℕ) (t k : ℕ) → k ≤ length xs → ((i : ℕ) → i < k → get_or xs i 0 < t) → ((i : ℕ) → k ≤ i → i < length xs → t ≤ get_or xs i 0)
    → length (filter (λ w. nat_lt w t) xs) ≡ k
count_below [] t k fits below above = omega (arith, fits)
count_below (x ∷ xs) t zero fits below above =
    let no : nat_lt x t ≡ false = le-ltb x t (above zero (omega arith) (omega arith)) in
    rw no (count_below xs t zero (omega arith) (λ i less. absurd (omega (arith, less))) (λ i more inside. above (suc i) (omega arith) (omega (arith, inside))))
count_below (x ∷ xs) t (suc k) fits below above =
    let yes : nat_lt x t ≡ true = lt-ltb x t (below zero (omega arith)) in
    rw yes (ap suc (count_below xs t k (omega (arith, fits)) (λ i less. below (suc i) (omega (arith, less))) (λ i more inside. above (suc i) (omega (arith, more)) (omega (arith, inside)))))

-- no earlier one is above, and no later one is below
pub ascending : (xs : List ℕ) → IsStrictlyIncreasing xs → (i j : ℕ) → i ≤ j → j < length xs → get_or xs i 0 ≤ get_or xs j 0
ascending xs up i j back inside =
    elim (cases_lt i j) [
      | inl less ↦ (let below = AllPairs-from_increasing xs up i j 0 less inside in omega (arith, below))
      | inr same ↦ (let is : i ≡ j = omega (arith, back, same) in let e = ap (λ k. get_or xs k 0) is in omega (arith, e))
    ]
