-- A part of a graph: one range of its vertices, each with the ascending list of its targets, and with that list's home.
use Rattle.std.specs.Prelude.{◌≡◌, ℕ, ◌+◌, ◌*◌, ◌<◌, ◌≤◌, List, [], length, slice_index_or}
use Rattle.std.specs.List.{AllByRecursion}
use Rattle.past_model.specs.declared.limits.TheConstants.{MOST_VERTICES, MOST_RANGES, RANGE_VERTICES}
use Rattle.past_model.specs.declared.edit.Edit.{Edit}
use Rattle.past_model.specs.declared.home.Home.{Home}
use Rattle.past_model.specs.declared.home.Home.TheVariants.{Block}
use Rattle.graph_model.specs.Graph.{Graph, neighbours}
use Rattle.past_model.specs.Homes.{home_after, IsHomeOf}
use Rattle.past_model.specs.Edits.{source_of, target_of, after_batch, added, removed, AreEditsBelow}
use Rattle.shards.specs.declared.counts.Counts.{Counts}

pub record Part : Type 0 where
  pub range : ℕ
  pub rows : List (List ℕ)
  pub homes : List Home

-- the vertex that the i-th list is of
abbrev pub vertex_at : Part → ℕ → ℕ
vertex_at p i = RANGE_VERTICES * p.range + i

-- the i-th list
abbrev pub row_at : Part → ℕ → List ℕ
row_at p i = slice_index_or p.rows i []

-- the home of the i-th list
abbrev pub home_at : Part → ℕ → Home
home_at p i = slice_index_or p.homes i Block

-- its lists are those of its vertices in a graph
pub record IsPart (g : Graph) (p : Part) : Type 0 where
  pub within : vertex_at p (length p.rows) ≤ g.vertex_count
  pub each : (i : ℕ) → i < length p.rows → row_at p i ≡ neighbours g (vertex_at p i)

-- an edit is of one of its vertices, and goes to a vertex that a graph may have
abbrev pub IsEditOf : Part → Edit → Type 0
IsEditOf p e = (vertex_at p 0 ≤ source_of e) × (source_of e < vertex_at p (length p.rows)) × (target_of e < MOST_VERTICES)

abbrev pub AreEditsOf : Part → List Edit → Type 0
AreEditsOf p es = AllByRecursion (IsEditOf p) es

-- a part of as many vertices of the same range, which is a graph's part after a batch wherever the first was before
pub record IsPartAfter (es : List Edit) (p q : Part) : Type 0 where
  pub range : q.range ≡ p.range
  pub count : length q.rows ≡ length p.rows
  pub part : (g : Graph) → AreEditsBelow g.vertex_count es → IsPart g p → IsPart (after_batch es g) q

-- what the batch did to such a graph
pub record AreCounts (es : List Edit) (p : Part) (counts : Counts) : Type 0 where
  pub gained : (g : Graph) → AreEditsBelow g.vertex_count es → IsPart g p → counts.added ≡ added es g
  pub lost : (g : Graph) → AreEditsBelow g.vertex_count es → IsPart g p → counts.removed ≡ removed es g

-- each list's home is that of before, or the one to which it had to move
pub record AreHomesAfter (p q : Part) : Type 0 where
  pub count : length q.homes ≡ length p.homes
  pub each : (i : ℕ) → i < length q.homes → home_at q i ≡ home_after (home_at p i) (length (row_at q i))

-- a home for each list, which may keep as many targets as there are
pub record AreHomes (p : Part) : Type 0 where
  pub count : length p.homes ≡ length p.rows
  pub each : (i : ℕ) → i < length p.homes → IsHomeOf (home_at p i) (length (row_at p i))

-- a range of a graph of at most 268,435,456 vertices, and what its vertices' lists are in some such graph
pub record IsShard (p : Part) : Type 0 where
  pub low : p.range < MOST_RANGES
  pub some : 1 ≤ length p.rows
  pub few : length p.rows ≤ RANGE_VERTICES
  pub graph : Graph
  pub small : graph.vertex_count ≡ MOST_VERTICES
  pub part : IsPart graph p
  pub homes : AreHomes p
