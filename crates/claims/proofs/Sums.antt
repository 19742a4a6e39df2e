-- Sums over lists of which one item changes, and how often a number stands in a list.
use Rattle.std.proofs.Common.{◌≡◌, ℕ, zero, suc, ◌+◌, ◌*◌, ◌≤◌, List, [], ◌∷◌, ◌++◌, slice_set, refl, sym, ap, arith}
use Rattle.std.specs.List.{sum_by}
use Rattle.std.proofs.lemmas.List.Sums.{sum_by-cons, sum_by-append}
use mathlib.Core.Option.{some, some-injective, some-ne-none}
use lib.ListN.{get_elem?}
use Rattle.claims.specs.declared.limits.TheConstants.{CLAIMS_OF_A_PART}
use Rattle.claims.specs.Claims.{times, once_below}

module _ {A : Type 0} where
  -- a sum with one item more
  pub sum_more : (f : A → ℕ) (xs : List A) (a : A) → sum_by f (xs ++ a ∷ []) ≡ sum_by f xs + f a
  sum_more f xs a = omega (arith, sum_by-append f xs (a ∷ []), sum_by-cons f a [])

  -- a sum with another item in the place of one
  pub sum_set : (f : A → ℕ) (xs : List A) (i : ℕ) (a b : A) → get_elem? xs i ≡ some a → sum_by f (slice_set xs i b) + f a ≡ sum_by f xs + f b
  sum_set f [] i a b e = absurd (some-ne-none a (sym e))
  sum_set f (x ∷ xs) zero a b e =
      let same : f x ≡ f a = ap f (some-injective x a e) in
      omega (arith, sum_by-cons f x xs, sum_by-cons f b xs)
  sum_set f (x ∷ xs) (suc i) a b e =
      let rest = sum_set f xs i a b e in
      omega (arith, sum_by-cons f x xs, sum_by-cons f x (slice_set xs i b))

  -- one item is no more than the sum
  pub sum_least : (f : A → ℕ) (xs : List A) (i : ℕ) (a : A) → get_elem? xs i ≡ some a → f a ≤ sum_by f xs
  sum_least f [] i a e = absurd (some-ne-none a (sym e))
  sum_least f (x ∷ xs) zero a e =
      let same : f x ≡ f a = ap f (some-injective x a e) in
      omega (arith, sum_by-cons f x xs)
  sum_least f (x ∷ xs) (suc i) a e =
      let rest = sum_least f xs i a e in
      omega (arith, sum_by-cons f x xs)

  -- a sum is bounded as its items are
  pub sum_bounded : (f g : A → ℕ) (xs : List A) → ((i : ℕ) (a : A) → get_elem? xs i ≡ some a → f a ≤ g a * CLAIMS_OF_A_PART) → sum_by f xs ≤ sum_by g xs * CLAIMS_OF_A_PART
  sum_bounded f g [] bound = omega arith
  sum_bounded f g (x ∷ xs) bound =
      let first : f x ≤ g x * 4294967296 = bound zero x refl in
      let rest : sum_by f xs ≤ sum_by g xs * 4294967296 = sum_bounded f g xs (λ i a e. bound (suc i) a e) in
      omega (arith, sum_by-cons f x xs, sum_by-cons g x xs)

  -- where the sum of one thing stands at one item alone, another that is nothing without it does so too
  pub sum_nothing : (f g : A → ℕ) (xs : List A) → ((i : ℕ) (a : A) → get_elem? xs i ≡ some a → g a ≡ 0 → f a ≡ 0) → sum_by g xs ≡ 0 → sum_by f xs ≡ 0
  sum_nothing f g [] none e = refl
  sum_nothing f g (x ∷ xs) none e =
      let first : f x ≡ 0 = none zero x refl (omega (arith, sum_by-cons g x xs)) in
      let rest : sum_by f xs ≡ 0 = sum_nothing f g xs (λ i a at. none (suc i) a at) (omega (arith, sum_by-cons g x xs)) in
      omega (arith, sum_by-cons f x xs)

  pub sum_alone : (f g : A → ℕ) (xs : List A) (i : ℕ) (a : A) → ((j : ℕ) (b : A) → get_elem? xs j ≡ some b → g b ≡ 0 → f b ≡ 0) → get_elem? xs i ≡ some a → sum_by g xs ≡ g a → sum_by f xs ≡ f a
  sum_alone f g [] i a none e all = absurd (some-ne-none a (sym e))
  sum_alone f g (x ∷ xs) zero a none e all =
      let same : f x ≡ f a = ap f (some-injective x a e) in
      let same' : g x ≡ g a = ap g (some-injective x a e) in
      let rest : sum_by f xs ≡ 0 = sum_nothing f g xs (λ j b at. none (suc j) b at) (omega (arith, sum_by-cons g x xs)) in
      omega (arith, sum_by-cons f x xs)
  sum_alone f g (x ∷ xs) (suc i) a none e all =
      let most : g a ≤ sum_by g xs = sum_least g xs i a e in
      let first : f x ≡ 0 = none zero x refl (omega (arith, sum_by-cons g x xs)) in
      let rest : sum_by f xs ≡ f a = sum_alone f g xs i a (λ j b at. none (suc j) b at) e (omega (arith, sum_by-cons g x xs)) in
      omega (arith, sum_by-cons f x xs)

-- how often a number stands in two lists
pub times_both : (x : ℕ) (xs ys : List ℕ) → times x (xs ++ ys) ≡ times x xs + times x ys
times_both x xs ys = sum_by-append _ xs ys

-- a number that is one more than all below it is claimed once
pub once_more : (n x : ℕ) → once_below (n + 1) x ≡ once_below n x + times x (n ∷ [])
once_more n x = grind arith
