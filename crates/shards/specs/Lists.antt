-- The lists of a range's vertices, each in its home.
use Rattle.std.specs.Prelude.{◌≡◌, ℕ, ◌<◌, ◌≤◌, List, [], ◌∷◌, ◌++◌, length, map, slice_index_or, slice_set}
use Rattle.std.specs.List.{AllByRecursion}
use Rattle.past_model.specs.declared.home.Home.{Home}
use Rattle.past_model.specs.declared.home.Home.TheVariants.{Block, Gapped, Tree}
use Rattle.past_model.specs.declared.home.TheConstants.{BLOCK_MOST}
use Rattle.gapped_array.specs.Table.{IsOpen, list_at as run_at}
use Rattle.shards.specs.declared.lists.Place.{Place}
use Rattle.shards.specs.declared.lists.Place.TheVariants.{Nowhere, InShort, InBlock, InArray, InTree}
use Rattle.shards.specs.declared.lists.Lists.{Lists}
use Rattle.shards.specs.ShortBlocks.{set_at, ArePacked}

-- the list that stands at a place
abbrev pub list_at : Lists → Place → List ℕ
list_at l Nowhere = []
list_at l (InShort k) = set_at l.shorts k
list_at l (InBlock k) = slice_index_or l.blocks.items k []
list_at l (InArray k) = run_at l.array k
list_at l (InTree k) = slice_index_or l.trees.items k []

abbrev pub home_of : Place → Home
home_of Nowhere = Block
home_of (InShort k) = Block
home_of (InBlock k) = Block
home_of (InArray k) = Gapped
home_of (InTree k) = Tree

-- the lists of the vertices, and their homes
abbrev pub rows_of : Lists → List (List ℕ)
rows_of l = map (list_at l) l.places.items

abbrev pub homes_of : Lists → List Home
homes_of l = map home_of l.places.items

-- there is such a place
abbrev pub IsThere : Lists → Place → Type 0
IsThere l Nowhere = Unit {0}
IsThere l (InShort k) = k < length l.shorts.ends.items
IsThere l (InBlock k) = k < length l.blocks.items
IsThere l (InArray k) = IsOpen l.array k
IsThere l (InTree k) = k < length l.trees.items

-- no list stands at two of these places
abbrev pub AreApart : List Place → Type 0
AreApart ps = (i j : ℕ) → (i ≡ j → ⊥) → i < length ps → j < length ps → slice_index_or ps i Nowhere ≡ slice_index_or ps j Nowhere → slice_index_or ps i Nowhere ≡ Nowhere

-- each vertex's place is there and its own, and no more blocks, runs or trees are than vertices
pub record AreKept (l : Lists) : Type 0 where
  pub there : AllByRecursion (IsThere l) l.places.items
  pub apart : AreApart l.places.items
  pub packed : ArePacked l.shorts
  pub shorts : length l.shorts.ends.items ≤ length l.places.items
  pub blocks : length l.blocks.items ≤ length l.places.items
  pub runs : length l.array ≤ length l.places.items
  pub trees : length l.trees.items ≤ length l.places.items

-- a list more, after the others
pub record IsPushed (old new : Lists) (row : List ℕ) (home : Home) : Type 0 where
  pub kept : AreKept new
  pub rows : rows_of new ≡ rows_of old ++ row ∷ []
  pub homes : homes_of new ≡ homes_of old ++ home ∷ []

-- the same lists in the same homes
pub record AreSame (old new : Lists) : Type 0 where
  pub kept : AreKept new
  pub rows : rows_of new ≡ rows_of old
  pub homes : homes_of new ≡ homes_of old

-- another list at one of the vertices, in a home, and all others as they were
pub record IsReplaced (old new : Lists) (vertex : ℕ) (row : List ℕ) (home : Home) : Type 0 where
  pub kept : AreKept new
  pub rows : rows_of new ≡ slice_set (rows_of old) vertex row
  pub homes : homes_of new ≡ slice_set (homes_of old) vertex home

-- the same of a list at home in its block, which stays there
pub record IsPutInBlock (old new : Lists) (vertex : ℕ) (row : List ℕ) : Type 0 where
  pub home : slice_index_or (homes_of old) vertex Block ≡ Block
  pub few : length row ≤ BLOCK_MOST
  pub replaced : IsReplaced old new vertex row Block
