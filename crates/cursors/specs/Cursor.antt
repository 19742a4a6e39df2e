-- A list under way of being lent.
use Rattle.std.specs.Prelude.{ℕ, List, [], Option, Some, None}

-- the targets that are left
abbrev pub left_of : Option (List ℕ) → List ℕ
left_of None = []
left_of (Some targets) = targets
