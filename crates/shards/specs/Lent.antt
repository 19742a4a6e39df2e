-- A list lent in slices.
use Rattle.std.specs.Prelude.{◌≡◌, ℕ, ◌+◌, ◌<◌, List, ◌++◌, length, drop}

-- a slice of a list from a place on, which is empty only at the list's end
pub record IsLentAt (targets : List ℕ) (place : ℕ) (lent : List ℕ) : Type 0 where
  pub whole : drop place targets ≡ lent ++ drop (place + length lent) targets
  pub some : place < length targets → 0 < length lent
