-- Pieces of the cells of an array.
use Rattle.std.specs.Prelude.{ℕ, List, take, drop}

-- the `count` cells from `from` on
abbrev pub piece : ℕ → ℕ → List ℕ → List ℕ
piece from count xs = take count (drop from xs)
