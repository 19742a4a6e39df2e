-- What is known of a list whose first numbers were tried one by one.
use Rattle.std.proofs.Common.{◌≡◌, ℕ, ◌<◌, ◌≤◌, List, Err, length, get_or, refl, subst, nat_cmp, arith, tests}
use Rattle.std.proofs.lemmas.List.{get_or_default}
use Rattle.std.specs.declared.cmp.Ordering.{Ordering}
use Rattle.std.specs.declared.cmp.Ordering.TheVariants.{Less, Equal, Greater}
use Rattle.std.specs.Ordering.{ordering_index}
use Rattle.std.specs.List.Sorted.{IsBinarySearchResult}

below_is_less : (a b : ℕ) → a < b → nat_cmp a b ≡ Less
below_is_less a b lt = grind (arith, tests)

above_is_greater : (a b : ℕ) → b < a → nat_cmp a b ≡ Greater
above_is_greater a b lt = grind (arith, tests)

least_is_greater : (o : Ordering) → 2 ≤ ordering_index o → o ≡ Greater
least_is_greater Less le = absurd (omega arith)
least_is_greater Equal le = absurd (omega arith)
least_is_greater Greater le = refl

-- a word that is missing would stand after lesser ones and before a greater one
pub missed_nearby : (xs : List ℕ) (x i : ℕ) → ((k d : ℕ) → k < i → get_or xs k d < x) → i < length xs → x < get_or xs i 0 → IsBinarySearchResult (λ y. nat_cmp y x) xs (Err i)
missed_nearby xs x i below inside here = λ up. (
  (λ k d low high. below_is_less (get_or xs k d) x (below k d high)),
  (λ k d low high. least_is_greater (nat_cmp (get_or xs k d) x)
      (subst (λ o. ordering_index o ≤ ordering_index (nat_cmp (get_or xs k d) x)) (above_is_greater (get_or xs i d) x (subst (λ y. x < y) (get_or_default xs i 0 d inside) here)) (up i k d low high))),
)
