-- Short lists, one after another.
use Rattle.std.specs.Prelude.{◌≡◌, ℕ, ◌+◌, ◌-◌, ◌*◌, ◌<◌, ◌≤◌, List, ◌∷◌, length, take, drop, slice_index}
use Rattle.word_sets.specs.Words.{IsSet}
use Rattle.shards.specs.declared.short_blocks.ShortBlocks.{ShortBlocks}
use Rattle.shards.specs.declared.short_blocks.TheConstants.{SHORT_PLACES}

-- a list begins where the one before it ends, the first one at the first word
abbrev pub start_of : ShortBlocks → ℕ → ℕ
start_of b k = slice_index (0 ∷ b.ends.items) k

abbrev pub end_of : ShortBlocks → ℕ → ℕ
end_of b k = slice_index b.ends.items k

-- the words of a list
abbrev pub set_at : ShortBlocks → ℕ → List ℕ
set_at b k = take (end_of b k - start_of b k) (drop (start_of b k) b.words.items)

-- each list is a set of few words, and there are no other words
pub record ArePacked (b : ShortBlocks) : Type 0 where
  pub ascending : (k : ℕ) → k < length b.ends.items → start_of b k ≤ end_of b k
  pub within : (k : ℕ) → k < length b.ends.items → end_of b k ≤ length b.words.items
  pub sets : (k : ℕ) → k < length b.ends.items → IsSet (set_at b k)
  pub short : (k : ℕ) → k < length b.ends.items → length (set_at b k) ≤ SHORT_PLACES
  pub whole : start_of b (length b.ends.items) ≡ length b.words.items
  pub few : length b.words.items ≤ SHORT_PLACES * length b.ends.items

-- ends that lie elsewhere from one on, by the words that went there and those that came
pub record AreShifted (from gone come : ℕ) (old new : List ℕ) : Type 0 where
  pub count : length new ≡ length old
  pub before : (k : ℕ) → k < from → slice_index new k ≡ slice_index old k
  pub after : (k : ℕ) → from ≤ k → k < length old → slice_index new k + gone ≡ slice_index old k + come

-- another list in place of one of them, and all others as they were
pub record IsSetPut (old new : ShortBlocks) (number : ℕ) (words : List ℕ) : Type 0 where
  pub packed : ArePacked new
  pub count : length new.ends.items ≡ length old.ends.items
  pub own : set_at new number ≡ words
  pub others : (k : ℕ) → (k ≡ number → ⊥) → k < length old.ends.items → set_at new k ≡ set_at old k
