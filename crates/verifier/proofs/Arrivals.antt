-- The table of states, as ways come to it.
use Rattle.std.proofs.Common.{◌≡◌, ℕ, List, [], ◌∷◌, ◌++◌, get_or, Option, None, arith, inr}
use Rattle.std.specs.Prelude.{ℤ}
use Rattle.abstract_state.specs.States.{AbstractState}
use Rattle.verifier.specs.Rules.{Ways}
use Rattle.verifier.specs.Described.{IsWay}
use Rattle.verifier.specs.Tables.{LeadInside}

abbrev pub States : Type 0
States = List (Option AbstractState)

abbrev pub HasNone : States → Type 0
HasNone states = (q : ℕ) → get_or states q None ≡ None

way_right : (w : ℤ × AbstractState) (xs ys : Ways) → IsWay w ys → IsWay w (xs ++ ys)
way_right w [] ys m = m
way_right w (x ∷ xs) ys m = inr (way_right w xs ys m)

pub inside_right : (end : ℕ) (xs ys : Ways) → LeadInside end (xs ++ ys) → LeadInside end ys
inside_right end xs ys h w m = h w (way_right w xs ys m)
