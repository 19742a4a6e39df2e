-- The nodes of a tree of words.
use Rattle.std.specs.Prelude.{◌≡◌, ℕ, ◌<◌, ◌≤◌, List, length, All, slice_index, flat_map}
use Rattle.neighbour_btree.specs.declared.levels.level.TheConstants.{MOST, FEWEST}
use Rattle.word_sets.specs.Words.{IsSet}

-- the words under a node, ascending, and how many entries it has: a leaf words, an inner node children
pub record Node : Type 0 where
  pub words : List ℕ
  pub size : ℕ

-- the words under nodes, one after another
abbrev pub words_under : List Node → List ℕ
words_under nodes = flat_map (λ n. n.words) nodes

-- a leaf of these words
abbrev pub leaf_of : List ℕ → Node
leaf_of words = record { words = words; size = length words }

-- an inner node of these children
abbrev pub inner_of : List Node → Node
inner_of nodes = record { words = words_under nodes; size = length nodes }

-- a node that may be a child: a quarter full or more, with at least so many words
pub record IsChild (least : ℕ) (n : Node) : Type 0 where
  pub fewest : FEWEST ≤ n.size
  pub most : n.size ≤ MOST
  pub words : least ≤ length n.words
  pub some : 0 < length n.words

-- a node that may be a child as soon as it is a quarter full
pub record IsSound (least : ℕ) (n : Node) : Type 0 where
  pub most : n.size ≤ MOST
  pub child : FEWEST ≤ n.size → IsChild least n

-- a child with what its parent keeps beside it: its first word, and how many it has
pub record IsEntry (least first count : ℕ) (n : Node) : Type 0 where
  pub first_word : first ≡ slice_index n.words 0
  pub word_count : count ≡ length n.words
  pub child : IsChild least n

-- the words of a leaf
pub record IsLeaf (words : List ℕ) : Type 0 where
  pub set : IsSet words
  pub most : length words ≤ MOST

-- the children of an inner node
pub record IsInner (least : ℕ) (nodes : List Node) : Type 0 where
  pub some : 0 < length nodes
  pub most : length nodes ≤ MOST
  pub children : All (IsChild least) nodes
  pub set : IsSet (words_under nodes)
