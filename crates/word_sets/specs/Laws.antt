-- Laws of the words of a set. Each is the contract of a public function.
use Rattle.std.specs.Prelude.{◌≡◌, ◌≢◌, ℕ, ◌<◌, ◌≤◌, ◌↔◌, not, ◌&&◌, ◌||◌, ◌==◌, IsTrue, List, [], ◌∷◌, ◌++◌, All, Contains}
use Rattle.std.specs.List.Sorted.{IsStrictlyIncreasing}
use Rattle.graph_model.specs.Graph.{Graph, neighbours}
use Rattle.past_model.specs.Edits.{after_batch}
use Rattle.past_model.specs.declared.edit.Edit.TheVariants.{Insert, Remove}
use Rattle.word_sets.specs.declared.places.TheConstants.{WORD_LIMIT}
use Rattle.word_sets.specs.Words.{has_word, with_word, without_word, IsWithin, IsSet}

-- a set's list is strictly ascending and below the limit, and each such list is a set's
abbrev pub SetsAscend : Type 0
SetsAscend = (xs : List ℕ) → IsSet xs ↔ (IsStrictlyIncreasing xs × All (λ x. x < WORD_LIMIT) xs)

-- the test of membership finds exactly the words that are there
abbrev pub MembersAreFound : Type 0
MembersAreFound = (w : ℕ) (xs : List ℕ) → IsTrue (has_word w xs) ↔ Contains xs w

-- one word more: it is a set again, which has that word and those of before
abbrev pub OneWordMore : Type 0
OneWordMore =
    (w : ℕ) (xs : List ℕ) → IsSet xs → w < WORD_LIMIT
    → IsSet (with_word w xs) × ((v : ℕ) → has_word v (with_word w xs) ≡ ((v == w) || has_word v xs))

-- one word less: it is a set again, which has the others of before
abbrev pub OneWordLess : Type 0
OneWordLess =
    (w : ℕ) (xs : List ℕ) → IsSet xs
    → IsSet (without_word w xs) × ((v : ℕ) → has_word v (without_word w xs) ≡ (not (v == w) && has_word v xs))

-- what is asked or changed of a word between `a` and `b` goes into the part of a list that holds those
abbrev pub OnePartDecides : Type 0
OnePartDecides =
    (low a w b high : ℕ) (before part after : List ℕ) → a ≤ w → w < b → IsWithin low a before → IsWithin b high after
    → (with_word w (before ++ (part ++ after)) ≡ before ++ (with_word w part ++ after))
    × (without_word w (before ++ (part ++ after)) ≡ before ++ (without_word w part ++ after))
    × (has_word w (before ++ (part ++ after)) ≡ has_word w part)

-- the neighbours in a graph that is not too large are a set
abbrev pub NeighboursAreASet : Type 0
NeighboursAreASet = (g : Graph) (v : ℕ) → g.vertex_count ≤ WORD_LIMIT → IsSet (neighbours g v)

-- an edge put in is one word more in its source's neighbours, and changes no other vertex's
abbrev pub InsertionIsOneWordMore : Type 0
InsertionIsOneWordMore =
    (g : Graph) (u v : ℕ) → u < g.vertex_count → v < g.vertex_count
    → (neighbours (after_batch (Insert u v ∷ []) g) u ≡ with_word v (neighbours g u))
    × ((other : ℕ) → other ≢ u → neighbours (after_batch (Insert u v ∷ []) g) other ≡ neighbours g other)

-- an edge taken out is one word less there
abbrev pub RemovalIsOneWordLess : Type 0
RemovalIsOneWordLess =
    (g : Graph) (u v : ℕ)
    → (neighbours (after_batch (Remove u v ∷ []) g) u ≡ without_word v (neighbours g u))
    × ((other : ℕ) → other ≢ u → neighbours (after_batch (Remove u v ∷ []) g) other ≡ neighbours g other)
