-- Texts of one piece after another.
use Rattle.std.specs.Prelude.{ℕ, zero, suc, List, [], ◌∷◌, ◌++◌}

abbrev pub newline : List ℕ
newline = 10 ∷ []

-- the pieces of the first n numbers, one after another
unfoldable pub pieces_to : (ℕ → List ℕ) → ℕ → List ℕ
pieces_to piece zero = []
pieces_to piece (suc n) = pieces_to piece n ++ piece n
