-- Numbers that are claimed, one after another: how often each was, and what a claimant is seen as.
use Rattle.std.specs.Prelude.{◌≡◌, ◌==◌, ℕ, List, if◌then◌else◌, nat_lt}
use Rattle.std.specs.List.{count_by}
use Rattle.atomic_table.specs.Seated.{TableId}

-- how often a number stands in a list
abbrev pub times : ℕ → List ℕ → ℕ
times x xs = count_by (λ y. y == x) xs

-- once for a number below a count, and never for another
abbrev pub once_below : ℕ → ℕ → ℕ
once_below count x = if nat_lt x count then 1 else 0

-- the numbers below a count stand in a list, each once, and there are no others
abbrev pub AreAllBelow : ℕ → List ℕ → Type 0
AreAllBelow count xs = (x : ℕ) → times x xs ≡ once_below count x

-- a claimant: which counter it claims of, how many of its 16 parts it has, and what it claimed, in order
pub record Claiming : Type 0 where
  pub counter : TableId
  pub parts : ℕ
  pub claimed : List ℕ

abbrev pub claiming : TableId → ℕ → List ℕ → Claiming
claiming counter parts claimed = record { counter = counter; parts = parts; claimed = claimed }
