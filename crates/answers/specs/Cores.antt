-- The answer of cores: what makes it right, and what one pass over the edges tests of it.
use Rattle.std.specs.Prelude.{◌≡◌, ℕ, ◌<◌, ◌≤◌, ◌==◌, Bool, true, not, ◌&&◌, ◌||◌, nat_lt, List, length, filter, slice_index}
use Rattle.graph_model.specs.Graph.{Graph, neighbours}

-- how many of a vertex's edges lead to other vertices that pass a test
abbrev pub count_others : Graph → (ℕ → Bool) → ℕ → ℕ
count_others g test v = length (filter (λ u. test u && not (u == v)) (neighbours g v))

-- a set of vertices, each of which has edges to at least k others of the set
abbrev pub IsCore : Graph → ℕ → (ℕ → Bool) → Type 0
IsCore g k set = (v : ℕ) → set v ≡ true → k ≤ count_others g set v

-- whether a number is no less than another
abbrev pub is_at_least : ℕ → ℕ → Bool
is_at_least least number = not (nat_lt number least)

-- whether a vertex comes after another: its core number is greater, or it is the same and its place is none before
abbrev pub is_after : (cores places : List ℕ) → (v u : ℕ) → Bool
is_after cores places v u =
    nat_lt (slice_index cores v) (slice_index cores u)
    || ((slice_index cores u == slice_index cores v) && is_at_least (slice_index places v) (slice_index places u))

-- a vertex has enough edges to others whose core numbers are no less than its own, and no more to others that come after it
pub record HasItsCore (g : Graph) (cores places : List ℕ) (v : ℕ) : Type 0 where
  pub enough : slice_index cores v ≤ count_others g (λ u. is_at_least (slice_index cores v) (slice_index cores u)) v
  pub few : count_others g (is_after cores places v) v ≤ slice_index cores v

-- arrays of core numbers and of places, with an entry for each vertex, that pass the test of cores
pub record AreCores (g : Graph) (cores places : List ℕ) : Type 0 where
  pub core_count : length cores ≡ g.vertex_count
  pub place_count : length places ≡ g.vertex_count
  pub has : (v : ℕ) → v < g.vertex_count → HasItsCore g cores places v

-- a vertex belongs to a core of its number, and to no core of a greater one
abbrev pub NumbersAreCores : Type 0
NumbersAreCores =
    (g : Graph) (cores places : List ℕ) → AreCores g cores places → (v : ℕ) → v < g.vertex_count
    → ((set : ℕ → Bool) × (set v ≡ true) × IsCore g (slice_index cores v) set)
    × ((k : ℕ) (set : ℕ → Bool) → set v ≡ true → IsCore g k set → k ≤ slice_index cores v)
