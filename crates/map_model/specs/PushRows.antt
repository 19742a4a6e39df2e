-- Worked pushes. Each follows from the definitions by computing. The edges 0-1, 0-2, 1-2 and 3-2 have the numbers of their
-- sources in the column 1, 10, 100, 1000.
use Rattle.std.specs.Prelude.{◌≡◌, ℕ, List, [], ◌∷◌}
use Rattle.map_model.specs.declared.reduction.Reduction.{Reduction}
use Rattle.map_model.specs.declared.reduction.Reduction.TheVariants.{Min, Max, Sum}
use Rattle.map_model.specs.Pushes.{pushed, changed}

-- a push leaves these values, with another number than before at so many places
abbrev pub Leaves : Reduction → (targets numbers values after : List ℕ) → (places : ℕ) → Type 0
Leaves r targets numbers values after places = (pushed r targets numbers values ≡ after) × (changed values after ≡ places)

-- the number of which a sum of one more is 0
abbrev pub greatest_number : ℕ
greatest_number = 18446744073709551615

abbrev pub all_targets : List ℕ
all_targets = 1 ∷ 2 ∷ 2 ∷ 2 ∷ []

abbrev pub all_sources : List ℕ
all_sources = 1 ∷ 1 ∷ 10 ∷ 1000 ∷ []

-- four values that are the same
abbrev pub four : ℕ → List ℕ
four n = n ∷ n ∷ n ∷ n ∷ []

abbrev pub WorkedPushes : Type 0
WorkedPushes =
    Leaves Sum all_targets all_sources (four 0) (0 ∷ 1 ∷ 1011 ∷ 0 ∷ []) 2
    × Leaves Sum all_targets all_sources (four greatest_number) (greatest_number ∷ 0 ∷ 1010 ∷ greatest_number ∷ []) 2
    × Leaves Min all_targets all_sources (four greatest_number) (greatest_number ∷ 1 ∷ 1 ∷ greatest_number ∷ []) 2
    -- of the sources 0 and 3
    × Leaves Max (1 ∷ 2 ∷ 2 ∷ []) (1 ∷ 1 ∷ 1000 ∷ []) (four 5) (5 ∷ 5 ∷ 1000 ∷ 5 ∷ []) 1
    -- of the source 0 twice
    × Leaves Sum (1 ∷ 2 ∷ 1 ∷ 2 ∷ []) (1 ∷ 1 ∷ 1 ∷ 1 ∷ []) (four 0) (0 ∷ 2 ∷ 2 ∷ 0 ∷ []) 2
