-- The root of a tree.
use Rattle.std.specs.Prelude.{◌≡◌, ℕ, ◌+◌, ◌≤◌, true, false, List, length, Option, Some, None}
use Rattle.word_sets.specs.Words.{IsSet, has_word, with_word, without_word}
use Rattle.neighbour_btree.specs.Node.{Node, IsChild}
use Rattle.neighbour_btree.specs.declared.levels.change.Change.{Change}
use Rattle.neighbour_btree.specs.declared.levels.change.Change.TheVariants.{Same, Changed, Unable}
use Rattle.neighbour_btree.specs.declared.root.Root.{Root}
use Rattle.neighbour_btree.specs.declared.root.Root.TheVariants.{One, Two, Three, Four, Five, Six, Seven}
use Rattle.neighbour_btree.specs.declared.root.Raised.{Raised}
use Rattle.neighbour_btree.specs.declared.root.Raised.TheVariants.{Same as NotRaised, Kept as StaysHigh, Above}
use Rattle.neighbour_btree.specs.declared.root.Lowered.{Lowered}
use Rattle.neighbour_btree.specs.declared.root.Lowered.TheVariants.{Same as NotLowered, Kept as StaysLow, Below}

-- the node at the root
abbrev pub node_of : Root → Node
node_of (One n) = n
node_of (Two n) = n
node_of (Three n) = n
node_of (Four n) = n
node_of (Five n) = n
node_of (Six n) = n
node_of (Seven n) = n

-- how many entries it has at least
abbrev pub fewest_of : Root → ℕ
fewest_of (One n) = 0
fewest_of (Two n) = 2
fewest_of (Three n) = 2
fewest_of (Four n) = 2
fewest_of (Five n) = 2
fewest_of (Six n) = 2
fewest_of (Seven n) = 2

-- the words of a tree
abbrev pub words_of : Root → List ℕ
words_of r = (node_of r).words

-- a root with enough entries, over the words of a set
pub record IsRoot (r : Root) : Type 0 where
  pub size : fewest_of r ≤ (node_of r).size
  pub set : IsSet (words_of r)

-- a root of one level with a word more: of that level still, or of the next with two children
abbrev pub Raises : {N : Type 0} → (N → Node) → ℕ → Node → ℕ → Raised N → Type 0
Raises node least old w NotRaised = has_word w old.words ≡ true
Raises node least old w (StaysHigh n) =
    (has_word w old.words ≡ false) × ((node n).words ≡ with_word w old.words) × (old.size ≤ (node n).size)
Raises node least old w (Above n) =
    (has_word w old.words ≡ false) × (n.words ≡ with_word w old.words) × (n.size ≡ 2) × (least + least ≤ length n.words)

-- a root of one level with a word less: of that level still, or its only child
abbrev pub Lowers : {N : Type 0} → (N → Node) → ℕ → Node → ℕ → Lowered N → Type 0
Lowers node least old w NotLowered = has_word w old.words ≡ false
Lowers node least old w (StaysLow n) =
    (has_word w old.words ≡ true) × (n.words ≡ without_word w old.words) × (2 ≤ n.size)
Lowers node least old w (Below n) =
    (has_word w old.words ≡ true) × ((node n).words ≡ without_word w old.words) × IsChild least (node n)

-- a root with a word more, or none where it is there
abbrev pub RootWith : Root → ℕ → Option Root → Type 0
RootWith old w None = has_word w (words_of old) ≡ true
RootWith old w (Some r) = (has_word w (words_of old) ≡ false) × (words_of r ≡ with_word w (words_of old))
    × (fewest_of r ≤ (node_of r).size)

-- a root with a word less, or none where it is not there
abbrev pub RootWithout : Root → ℕ → Option Root → Type 0
RootWithout old w None = has_word w (words_of old) ≡ false
RootWithout old w (Some r) = (has_word w (words_of old) ≡ true) × (words_of r ≡ without_word w (words_of old))
    × (fewest_of r ≤ (node_of r).size)

-- what a change in place leaves of the words
abbrev pub WordsAdded : List ℕ → List ℕ → ℕ → Change → Type 0
WordsAdded old new w Same = (has_word w old ≡ true) × (new ≡ old)
WordsAdded old new w Changed = (has_word w old ≡ false) × (new ≡ with_word w old)
WordsAdded old new w Unable = new ≡ old

abbrev pub WordsTaken : List ℕ → List ℕ → ℕ → Change → Type 0
WordsTaken old new w Same = (has_word w old ≡ false) × (new ≡ old)
WordsTaken old new w Changed = (has_word w old ≡ true) × (new ≡ without_word w old)
WordsTaken old new w Unable = new ≡ old
