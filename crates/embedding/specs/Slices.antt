-- The slices that are lent of a vertex's neighbours.
use Rattle.std.specs.Prelude.{◌≡◌, ℕ, ◌<◌, ◌≤◌, List, [], ◌∷◌, ◌++◌, length, take, drop, slice_index_or}
use Rattle.std.specs.List.{All, sum_by}
use Rattle.std.specs.Ptr.{as_ptr}
use denote.Ref.{Bor}
use Rattle.embedding.specs.declared.slices.Slice.{Slice}

-- how many words some slices have together
abbrev pub counted : List Slice → ℕ
counted slices = sum_by (λ (s : Slice). s.count) slices

-- a slice has the first of some words, up to these, and has the address of a word that equals the first of them
pub record Begins (words : List ℕ) (s : Slice) (left : List ℕ) : Type 0 where
  pub own : List ℕ
  pub cut : words ≡ own ++ left
  pub count : s.count ≡ length own
  pub first : Bor ℕ
  pub word : first.now ≡ slice_index_or own 0 0
  pub at : s.at ≡ as_ptr first

-- some slices have the words in order, up to these
abbrev pub Follow : List ℕ → List Slice → List ℕ → Type 0
Follow words [] left = words ≡ left
Follow words (s ∷ ss) left = (rest : List ℕ) × Begins words s rest × Follow rest ss left

-- of a vertex with these neighbours: so many slices were written, from the first place on, and the places after them are as
-- they were. Each slice has a word. Together they have no more words than there are neighbours, and fewer only if there is no
-- room left; they have them in order, and each has the address of a word that equals its first
pub record AreLent (neighbours : List ℕ) (lent : ℕ) (old new : List Slice) : Type 0 where
  pub fit : lent ≤ length new
  pub filled : All (λ (s : Slice). 0 < s.count) (take lent new)
  pub rest : drop lent new ≡ drop lent old
  pub some : counted (take lent new) ≤ length neighbours
  pub all : lent < length new → counted (take lent new) ≡ length neighbours
  pub left : List ℕ
  pub begins : Follow neighbours (take lent new) left
