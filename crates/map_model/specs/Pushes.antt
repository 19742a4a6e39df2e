-- Pushes: the number of an edge goes to the place of its target.
use Rattle.std.specs.Prelude.{◌≡◌, ℕ, ◌+◌, ◌<◌, ◌^◌, ◌==◌, if◌then◌else◌, List, [], ◌∷◌, ◌++◌, length, replicate, slice_index, slice_set}
use Rattle.map_model.specs.declared.reduction.Reduction.{Reduction}
use Rattle.map_model.specs.EdgeMap.{reduction_of_numbers}

-- two numbers as one
abbrev pub joint : Reduction → ℕ → ℕ → ℕ
joint r a b = reduction_of_numbers r (a ∷ b ∷ [])

-- the values after each number has gone to its target's place, one after another
unfoldable pub pushed : Reduction → (targets numbers values : List ℕ) → List ℕ
pushed r [] numbers values = values
pushed r (t ∷ ts) [] values = values
pushed r (t ∷ ts) (n ∷ ns) values = pushed r ts ns (slice_set values t (joint r (slice_index values t) n))

-- the numbers that go to a vertex
unfoldable pub numbers_to : ℕ → (targets numbers : List ℕ) → List ℕ
numbers_to v [] numbers = []
numbers_to v (t ∷ ts) [] = []
numbers_to v (t ∷ ts) (n ∷ ns) = if t == v then n ∷ numbers_to v ts ns else numbers_to v ts ns

-- at how many places of the first list the second has another number
unfoldable pub changed : (old new : List ℕ) → ℕ
changed [] new = 0
changed (a ∷ old) [] = 0
changed (a ∷ old) (b ∷ new) = (if a == b then 0 else 1) + changed old new

-- two values at each place as one
unfoldable pub joined : Reduction → (values others : List ℕ) → List ℕ
joined r [] others = []
joined r (a ∷ values) [] = a ∷ values
joined r (a ∷ values) (b ∷ others) = joint r a b ∷ joined r values others

-- a push leaves at each vertex what the number before and all that go there reduce to
abbrev pub PushedNumbersReduce : Type 0
PushedNumbersReduce =
    (r : Reduction) (targets numbers values : List ℕ) (v : ℕ) → v < length values → slice_index values v < 2 ^ 64
    → slice_index (pushed r targets numbers values) v ≡ reduction_of_numbers r (slice_index values v ∷ numbers_to v targets numbers)

-- a push of some numbers and then of others is a push of all of them
abbrev pub PushesInTurn : Type 0
PushesInTurn =
    (r : Reduction) (targets others numbers more values : List ℕ) → length targets ≡ length numbers
    → pushed r (targets ++ others) (numbers ++ more) values ≡ pushed r others more (pushed r targets numbers values)

-- A push of some numbers, and one of others into values that no number reduces to, joined at each place, are a push of all.
abbrev pub PushesJoin : Type 0
PushesJoin =
    (r : Reduction) (targets others numbers more values : List ℕ) → length targets ≡ length numbers → ((v : ℕ) → slice_index values v < 2 ^ 64)
    → pushed r (targets ++ others) (numbers ++ more) values
    ≡ joined r (pushed r targets numbers values) (pushed r others more (replicate (length values) (reduction_of_numbers r [])))
