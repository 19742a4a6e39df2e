-- Lists that ascend between two bounds.
use Rattle.std.proofs.Common.{ℕ, zero, suc, ◌+◌, ◌<◌, ◌≤◌, Bool, true, false, cond, List, [], ◌∷◌, ◌++◌, length, get_or, filter, arith, subst, add-one}
use Rattle.std.specs.List.Sorted.{IsStrictlyIncreasing}
use Rattle.std.proofs.lemmas.List.Elements.{All-get_or, All-from_get_or}
use Rattle.word_sets.specs.Words.{IsWithin, IsSet}
use Rattle.word_sets.specs.Laws.{SetsAscend}
use Rattle.word_sets.specs.declared.places.TheConstants.{WORD_LIMIT}

pub IsWithin-length : (low high : ℕ) (xs : List ℕ) → IsWithin low high xs → length xs + low ≤ high
IsWithin-length low high [] h = omega arith
IsWithin-length low high (x ∷ xs) h = omega (arith, IsWithin-length (suc x) high xs h.1, h.0)

pub IsWithin-wider : (a low high b : ℕ) (xs : List ℕ) → a ≤ low → high ≤ b → IsWithin low high xs → IsWithin a b xs
IsWithin-wider a low high b [] p q h = omega arith
IsWithin-wider a low high b (x ∷ xs) p q h =
    let at : a ≤ x = omega (arith, h.0) in (at, IsWithin-wider (suc x) (suc x) high b xs (omega arith) q h.1)

pub IsWithin-append : (low mid high : ℕ) (xs ys : List ℕ) → IsWithin low mid xs → IsWithin mid high ys → IsWithin low high (xs ++ ys)
IsWithin-append low mid high [] ys h k = IsWithin-wider low mid high high ys h (omega arith) k
IsWithin-append low mid high (x ∷ xs) ys h k = (h.0, IsWithin-append (suc x) mid high xs ys h.1 k)

-- a bound between the two parts of a list
pub parts : (low high : ℕ) (xs ys : List ℕ) → IsWithin low high (xs ++ ys) → (mid : ℕ) × IsWithin low mid xs × IsWithin mid high ys
parts low high [] ys h = (low, omega arith, h)
parts low high (x ∷ xs) ys h = let p = parts (suc x) high xs ys h.1 in (p.0, (h.0, p.1), p.2)

pub IsWithin-filter : (p : ℕ → Bool) (low high : ℕ) (xs : List ℕ) → IsWithin low high xs → IsWithin low high (filter p xs)
IsWithin-filter p low high [] h = h
IsWithin-filter p low high (x ∷ xs) h =
    elim (p x) as (λ b. IsWithin low high (cond b (x ∷ filter p xs) (filter p xs))) [
      | true ↦ (h.0, IsWithin-filter p (suc x) high xs h.1)
      | false ↦ IsWithin-wider low (suc x) high high (filter p xs) (omega (arith, h.0)) (omega arith) (IsWithin-filter p (suc x) high xs h.1)
    ]

pub from_low : (low high : ℕ) (xs : List ℕ) → IsWithin low high xs → (k : ℕ) → k < length xs → low ≤ get_or xs k 0
from_low low high [] h k lt = absurd (omega arith)
from_low low high (x ∷ xs) h zero lt = h.0
from_low low high (x ∷ xs) h (suc k) lt = omega (arith, from_low (suc x) high xs h.1 k (omega arith), h.0)

pub below_high : (low high : ℕ) (xs : List ℕ) → IsWithin low high xs → (k : ℕ) → k < length xs → get_or xs k 0 < high
below_high low high [] h k lt = absurd (omega arith)
below_high low high (x ∷ xs) h zero lt = omega (arith, IsWithin-length (suc x) high xs h.1)
below_high low high (x ∷ xs) h (suc k) lt = below_high (suc x) high xs h.1 k (omega arith)

pub rises : (low high : ℕ) (xs : List ℕ) → IsWithin low high xs → (i j : ℕ) → i < j → j < length xs → get_or xs i 0 < get_or xs j 0
rises low high [] h i j lt in' = absurd (omega arith)
rises low high (x ∷ xs) h i zero lt in' = absurd (omega arith)
rises low high (x ∷ xs) h zero (suc j) lt in' = omega (arith, from_low (suc x) high xs h.1 j (omega arith))
rises low high (x ∷ xs) h (suc i) (suc j) lt in' = rises (suc x) high xs h.1 i j (omega arith) (omega arith)

steps : (xs : List ℕ) → IsStrictlyIncreasing xs → (k : ℕ) → suc k < length xs → get_or xs k 0 < get_or xs (suc k) 0
steps xs up k h = subst (λ n. get_or xs k 0 < get_or xs n 0) (add-one k) (up k (omega arith))

above_first : (x : ℕ) (xs : List ℕ) → ((k : ℕ) → suc k < length (x ∷ xs) → get_or (x ∷ xs) k 0 < get_or (x ∷ xs) (suc k) 0) → (k : ℕ) → k < length xs → x < get_or xs k 0
above_first x xs up zero h = up 0 (omega arith)
above_first x xs up (suc k) h =
    omega (arith, above_first x xs up k (omega arith), up (suc k) (omega arith))

-- a list whose elements ascend and lie between the bounds
pub within_from : (low high : ℕ) (xs : List ℕ) → low ≤ high → ((k : ℕ) → suc k < length xs → get_or xs k 0 < get_or xs (suc k) 0) → ((k : ℕ) → k < length xs → low ≤ get_or xs k 0) → ((k : ℕ) → k < length xs → get_or xs k 0 < high) → IsWithin low high xs
within_from low high [] le up from below = le
within_from low high (x ∷ xs) le up from below =
    let ends : x < high = below 0 (omega arith) in
    (from 0 (omega arith), within_from (suc x) high xs (omega arith) (λ k h. up (suc k) (omega arith)) (λ k h. above_first x xs up k h) (λ k h. below (suc k) (omega arith)))

pub ascends : SetsAscend
ascends xs = (
  λ s. (
    (λ k h. rises 0 WORD_LIMIT xs s k (k + 1) (omega arith) h),
    All-from_get_or (λ x. x < WORD_LIMIT) xs 0 (λ k h. below_high 0 WORD_LIMIT xs s k h),
  ),
  λ f. within_from 0 WORD_LIMIT xs (omega arith) (λ k h. steps xs f.0 k h) (λ k h. omega arith) (λ k h. All-get_or (λ x. x < WORD_LIMIT) xs k 0 h f.1),
)

-- both parts of a set's list are sets
pub IsSet-parts : (xs ys : List ℕ) → IsSet (xs ++ ys) → IsSet xs × IsSet ys
IsSet-parts xs ys s =
    let p = parts 0 WORD_LIMIT xs ys s in
    let top = IsWithin-length p.0 WORD_LIMIT ys p.2 in
    (IsWithin-wider 0 0 p.0 WORD_LIMIT xs (omega arith) (omega arith) p.1, IsWithin-wider 0 p.0 WORD_LIMIT WORD_LIMIT ys (omega arith) (omega arith) p.2)
