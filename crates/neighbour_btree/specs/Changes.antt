-- What becomes of nodes by a change.
use Rattle.std.specs.Prelude.{◌≡◌, ℕ, ◌+◌, ◌<◌, ◌≤◌, true, false, List, ◌++◌, length, drop, Option, Some, None}
use Rattle.word_sets.specs.Words.{has_word, with_word, without_word}
use Rattle.neighbour_btree.specs.declared.levels.change.Grown.{Grown}
use Rattle.neighbour_btree.specs.declared.levels.change.Grown.TheVariants.{Same as NotGrown, New}
use Rattle.neighbour_btree.specs.declared.levels.change.Change.{Change}
use Rattle.neighbour_btree.specs.declared.levels.change.Change.TheVariants.{Same, Changed, Unable}
use Rattle.neighbour_btree.specs.Node.{Node, IsChild, IsSound}

-- words that were packed into one node, of at least so many entries, or into two that may be children
abbrev pub Packs : {N : Type 0} → (N → Node) → ℕ → ℕ → List ℕ → N → Option N → Type 0
Packs node least size words a None =
    ((node a).words ≡ words) × (size ≤ (node a).size) × IsSound least (node a)
Packs node least size words a (Some b) =
    ((node a).words ++ (node b).words ≡ words) × IsChild least (node a) × IsChild least (node b)

-- a node with a word more
abbrev pub Grows : {N : Type 0} → (N → Node) → ℕ → Node → ℕ → Grown N → Type 0
Grows node least old w NotGrown = has_word w old.words ≡ true
Grows node least old w (New a b) =
    (has_word w old.words ≡ false) × Packs node least old.size (with_word w old.words) a b

-- a node with a word less, and with one entry less at most
abbrev pub Shrinks : {N : Type 0} → (N → Node) → ℕ → Node → ℕ → Option N → Type 0
Shrinks node least old w None = has_word w old.words ≡ false
Shrinks node least old w (Some n) =
    (has_word w old.words ≡ true) × ((node n).words ≡ without_word w old.words)
    × (old.size ≤ (node n).size + 1) × IsSound least (node n)

-- a word put in, in place
abbrev pub Adds : ℕ → Node → Node → ℕ → Change → Type 0
Adds least old new w Same = (has_word w old.words ≡ true) × (new ≡ old)
Adds least old new w Changed =
    (has_word w old.words ≡ false) × (new.words ≡ with_word w old.words) × (old.size ≤ new.size) × IsSound least new
Adds least old new w Unable = new ≡ old

-- a word taken out, in place
abbrev pub Takes : ℕ → Node → Node → ℕ → Change → Type 0
Takes least old new w Same = (has_word w old.words ≡ false) × (new ≡ old)
Takes least old new w Changed =
    (has_word w old.words ≡ true) × (new.words ≡ without_word w old.words) × (old.size ≤ new.size + 1)
    × IsSound least new
Takes least old new w Unable = new ≡ old

-- some of the words from a place on
abbrev pub IsSliceAt : List ℕ → ℕ → List ℕ → Type 0
IsSliceAt words place slice = (0 < length slice) × (drop place words ≡ slice ++ drop (place + length slice) words)
