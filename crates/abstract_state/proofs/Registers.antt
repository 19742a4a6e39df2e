-- The registers of a state, one by one.
use Rattle.std.proofs.Common.{◌≡◌, List, [], ◌∷◌, length, get_or, set, refl, sym, subst, arith}
use Rattle.abstract_values.specs.declared.value.AbstractValue.{AbstractValue}
use Rattle.abstract_values.specs.declared.value.AbstractValue.TheVariants.{Unset}

pub eleven : (xs : List AbstractValue) → length xs ≡ 11 → xs ≡ get_or xs 0 Unset ∷ get_or xs 1 Unset ∷ get_or xs 2 Unset ∷ get_or xs 3 Unset ∷ get_or xs 4 Unset ∷ get_or xs 5 Unset ∷ get_or xs 6 Unset ∷ get_or xs 7 Unset ∷ get_or xs 8 Unset ∷ get_or xs 9 Unset ∷ get_or xs 10 Unset ∷ []
eleven [] long = absurd (omega (arith, long))
eleven (x0 ∷ []) long = absurd (omega (arith, long))
eleven (x0 ∷ x1 ∷ []) long = absurd (omega (arith, long))
eleven (x0 ∷ x1 ∷ x2 ∷ []) long = absurd (omega (arith, long))
eleven (x0 ∷ x1 ∷ x2 ∷ x3 ∷ []) long = absurd (omega (arith, long))
eleven (x0 ∷ x1 ∷ x2 ∷ x3 ∷ x4 ∷ []) long = absurd (omega (arith, long))
eleven (x0 ∷ x1 ∷ x2 ∷ x3 ∷ x4 ∷ x5 ∷ []) long = absurd (omega (arith, long))
eleven (x0 ∷ x1 ∷ x2 ∷ x3 ∷ x4 ∷ x5 ∷ x6 ∷ []) long = absurd (omega (arith, long))
eleven (x0 ∷ x1 ∷ x2 ∷ x3 ∷ x4 ∷ x5 ∷ x6 ∷ x7 ∷ []) long = absurd (omega (arith, long))
eleven (x0 ∷ x1 ∷ x2 ∷ x3 ∷ x4 ∷ x5 ∷ x6 ∷ x7 ∷ x8 ∷ []) long = absurd (omega (arith, long))
eleven (x0 ∷ x1 ∷ x2 ∷ x3 ∷ x4 ∷ x5 ∷ x6 ∷ x7 ∷ x8 ∷ x9 ∷ []) long = absurd (omega (arith, long))
eleven (x0 ∷ x1 ∷ x2 ∷ x3 ∷ x4 ∷ x5 ∷ x6 ∷ x7 ∷ x8 ∷ x9 ∷ x10 ∷ []) long = refl
eleven (x0 ∷ x1 ∷ x2 ∷ x3 ∷ x4 ∷ x5 ∷ x6 ∷ x7 ∷ x8 ∷ x9 ∷ x10 ∷ y ∷ ys) long = absurd (omega (arith, long))

pub begun : (xs : List AbstractValue) (top : AbstractValue) → length xs ≡ 11 → set (set (set (set (set (set xs 0 Unset) 6 Unset) 7 Unset) 8 Unset) 9 Unset) 10 top ≡ Unset ∷ get_or xs 1 Unset ∷ get_or xs 2 Unset ∷ get_or xs 3 Unset ∷ get_or xs 4 Unset ∷ get_or xs 5 Unset ∷ Unset ∷ Unset ∷ Unset ∷ Unset ∷ top ∷ []
begun xs top long =
    subst (λ (l : List AbstractValue). set (set (set (set (set (set l 0 Unset) 6 Unset) 7 Unset) 8 Unset) 9 Unset) 10 top ≡ Unset ∷ get_or l 1 Unset ∷ get_or l 2 Unset ∷ get_or l 3 Unset ∷ get_or l 4 Unset ∷ get_or l 5 Unset ∷ Unset ∷ Unset ∷ Unset ∷ Unset ∷ top ∷ []) (sym (eleven xs long)) refl

pub ended : (xs : List AbstractValue) (a b c d top : AbstractValue) → length xs ≡ 11 → set (set (set (set (set (set (set (set (set (set xs 1 Unset) 2 Unset) 3 Unset) 4 Unset) 5 Unset) 6 a) 7 b) 8 c) 9 d) 10 top ≡ get_or xs 0 Unset ∷ Unset ∷ Unset ∷ Unset ∷ Unset ∷ Unset ∷ a ∷ b ∷ c ∷ d ∷ top ∷ []
ended xs a b c d top long =
    subst (λ (l : List AbstractValue). set (set (set (set (set (set (set (set (set (set l 1 Unset) 2 Unset) 3 Unset) 4 Unset) 5 Unset) 6 a) 7 b) 8 c) 9 d) 10 top ≡ get_or l 0 Unset ∷ Unset ∷ Unset ∷ Unset ∷ Unset ∷ Unset ∷ a ∷ b ∷ c ∷ d ∷ top ∷ []) (sym (eleven xs long)) refl
