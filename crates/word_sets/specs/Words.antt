-- A set of words is the list of them, ascending, each once.
use Rattle.std.specs.Prelude.{◌≡◌, ℕ, suc, ◌<◌, ◌≤◌, Bool, true, false, not, ◌==◌, nat_lt, List, [], ◌∷◌, ◌++◌, length, filter, insert, remove, Result, MatchResult}
use Rattle.std.specs.List.{list_any}
use Rattle.word_sets.specs.declared.places.TheConstants.{WORD_LIMIT}

-- whether a word is in a list
abbrev pub has_word : ℕ → List ℕ → Bool
has_word w xs = list_any (λ x. x == w) xs

-- the words below w, w itself, the words above w
abbrev pub with_word : ℕ → List ℕ → List ℕ
with_word w xs = filter (λ x. nat_lt x w) xs ++ w ∷ filter (λ x. nat_lt w x) xs

-- the words other than w
abbrev pub without_word : ℕ → List ℕ → List ℕ
without_word w xs = filter (λ x. not (x == w)) xs

-- strictly ascending, from `low` on, and below `high`
abbrev pub IsWithin : ℕ → ℕ → List ℕ → Type 0
IsWithin low high [] = low ≤ high
IsWithin low high (x ∷ xs) = (low ≤ x) × IsWithin (suc x) high xs

-- strictly ascending words, each below the limit
abbrev pub IsSet : List ℕ → Type 0
IsSet xs = IsWithin 0 WORD_LIMIT xs

-- `Ok` of the place at which a word stands, or else `Err` of the place at which it belongs
abbrev pub IsPlace : ℕ → List ℕ → Result ℕ ℕ → Type 0
IsPlace w xs r =
    MatchResult r
    (λ i. (i < length xs) × (remove xs i ≡ without_word w xs) × (has_word w xs ≡ true))
    (λ i. (i ≤ length xs) × (insert xs i w ≡ with_word w xs) × (has_word w xs ≡ false))
