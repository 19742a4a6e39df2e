-- Lists of nodes.
use Rattle.std.specs.Prelude.{◌≡◌, ℕ, ◌<◌, ◌≤◌, ◌+◌, ◌*◌, All, None, length, List, [], ◌∷◌, ◌++◌, take, drop, Option, option_to_list, slice_index, slice_index_or}
use Rattle.neighbour_btree.specs.Node.{Node, words_under, IsChild}

-- no node at all
abbrev pub nothing : Node
nothing = record { words = []; size = 0 }

-- the first word of the node at a place
abbrev pub first_at : List Node → ℕ → ℕ
first_at nodes i = slice_index (slice_index_or nodes i nothing).words 0

-- nodes of which `taken` from a place on are replaced by one or two
abbrev pub replacement : List Node → ℕ → ℕ → Node → Option Node → List Node
replacement nodes at taken a b = take at nodes ++ (a ∷ (option_to_list b ++ drop (at + taken) nodes))

-- children of which one lost a word, in a list that may have one fewer
pub record Mends (least : ℕ) (nodes : List Node) (at : ℕ) (n : Node) (new : List Node) : Type 0 where
  pub words : words_under new ≡ words_under (replacement nodes at 1 n None)
  pub children : All (IsChild least) new
  pub most : length new ≤ length nodes
  pub fewest : length nodes ≤ length new + 1

-- a row of children over so many entries with these words: on the whole 32 entries or more each, and fewer than 64
pub record IsRow (least entries : ℕ) (list : List ℕ) (row : List Node) : Type 0 where
  pub words : words_under row ≡ list
  pub children : All (IsChild least) row
  pub many : entries < 64 * length row
  pub few : 32 * length row ≤ entries
