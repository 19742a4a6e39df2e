-- Lists of views, one of which is changed.
use Rattle.std.proofs.Common.{◌≡◌, ◌≢◌, ℕ, zero, suc, ◌⊎◌, Option, Some, None, List, [], ◌∷◌, ◌++◌, length, set, refl, sym, ap, ◌∙◌, subst, inl, inr, ⊎_elim}
use mathlib.Core.Option.{some, some-injective, some-ne-none}
use lib.ListN.{get_elem?}
use Rattle.crossbeam_queue.proofs.Lists.{at_set}
use Rattle.store.specs.declared.queue.queue_view.QueueView.{QueueView}
use Rattle.store.specs.QueueRule.{Facts, Fits}

-- each pass fits
abbrev pub AllFit : Facts → List QueueView → Type 0
AllFit f views = (pass : ℕ) (v : QueueView) → get_elem? views pass ≡ some v → Fits f pass v

-- where one view is changed: that one fits, and the others do
pub all_set : (f : Facts) (views : List QueueView) (port : ℕ) (w : QueueView) → Fits f port w
    → ((j : ℕ) (u : QueueView) → j ≢ port → get_elem? views j ≡ some u → Fits f j u) → AllFit f (set views port w)
all_set f views port w mine others j u at = ⊎_elim
    (λ (is : (j ≡ port) × (w ≡ u)). subst (λ (y : ℕ × QueueView). Fits f y.0 y.1) (λ i. (sym is.0 i, is.1 i)) mine)
    (λ (is : (j ≢ port) × (get_elem? views j ≡ some u)). others j u is.0 is.1)
    (at_set views port j w u at)

-- a view after a list is the last, and the others stand in the list
pub at_end : (views : List QueueView) (w u : QueueView) (j : ℕ) → get_elem? (views ++ w ∷ []) j ≡ some u
    → (get_elem? views j ≡ some u) ⊎ ((j ≡ length views) × (w ≡ u))
at_end [] w u zero at = inr (refl, some-injective w u at)
at_end [] w u (suc j) at = absurd (some-ne-none u (sym at))
at_end (v ∷ views) w u zero at = inl at
at_end (v ∷ views) w u (suc j) at = ⊎_elim
    (λ (is : get_elem? views j ≡ some u). inl is)
    (λ (is : (j ≡ length views) × (w ≡ u)). inr (ap suc is.0, is.1))
    (at_end views w u j at)

-- two feeds whose passes differ, and one feed that has a pass and one that has none, are two
pub two_seats : (seat : ℕ → Option ℕ) (p k j port : ℕ) → seat p ≡ Some j → seat k ≡ Some port → j ≢ port → p ≢ k
two_seats seat p k j port a b other is =
    let same : Some j ≡ Some port = sym a ∙ ap seat is ∙ b in other (cc same)

pub no_seat : (seat : ℕ → Option ℕ) (p k port : ℕ) → seat p ≡ None → seat k ≡ Some port → p ≢ k
no_seat seat p k port a b is =
    let same : None ≡ Some port = sym a ∙ ap seat is ∙ b in cc same
