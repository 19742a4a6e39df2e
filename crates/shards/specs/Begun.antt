-- A shard under edit: the lists of its first vertices are made.
use Rattle.std.specs.Prelude.{◌≡◌, ℕ, ◌+◌, ◌^◌, ◌<◌, ◌≤◌, Bool, not, ◌&&◌, List, [], ◌∷◌, ◌++◌, length, slice_index_or}
use Rattle.past_model.specs.declared.edit.Edit.{Edit}
use Rattle.past_model.specs.declared.home.Home.{Home}
use Rattle.past_model.specs.declared.home.Home.TheVariants.{Block}
use Rattle.graph_model.specs.Graph.{Graph, neighbours, count_pairs}
use Rattle.past_model.specs.Edits.{after_batch, AreEditsBelow}
use Rattle.past_model.specs.Homes.{home_after}
use Rattle.shards.specs.declared.counts.Counts.{Counts}
use Rattle.shards.specs.declared.lists.Lists.{Lists}
use Rattle.shards.specs.Lists.{AreKept, IsPushed, rows_of, homes_of}
use Rattle.shards.specs.Part.{Part, vertex_at, row_at, home_at, IsPart, AreEditsOf, IsShard}

-- a pair is an edge after edits and was none before, or was one and is none
abbrev pub is_new : List Edit → Graph → ℕ → ℕ → Bool
is_new es g u v = (after_batch es g).has_edge u v && not (g.has_edge u v)

abbrev pub is_gone : List Edit → Graph → ℕ → ℕ → Bool
is_gone es g u v = g.has_edge u v && not ((after_batch es g).has_edge u v)

-- the lists of the first vertices of a part of a graph after edits, and how many edges out of them are new and are gone
pub record IsDone (es : List Edit) (p : Part) (g : Graph) (rows : List (List ℕ)) (counts : Counts) : Type 0 where
  pub each : (i : ℕ) → i < length rows → slice_index_or rows i [] ≡ neighbours (after_batch es g) (vertex_at p i)
  pub gained : counts.added ≡ count_pairs (vertex_at p (length rows)) g.vertex_count (is_new es g)
  pub lost : counts.removed ≡ count_pairs (vertex_at p (length rows)) g.vertex_count (is_gone es g)

-- each of these lists has the home of before, or the one to which it had to move
pub record AreAtHome (p : Part) (rows : List (List ℕ)) (homes : List Home) : Type 0 where
  pub count : length homes ≡ length rows
  pub each : (i : ℕ) → i < length homes
      → slice_index_or homes i Block ≡ home_after (home_at p i) (length (slice_index_or rows i []))

-- both, whichever graph it is a part of
pub record AreBegun (es : List Edit) (p : Part) (rows : List (List ℕ)) (homes : List Home) (counts : Counts) : Type 0 where
  pub moved : AreAtHome p rows homes
  pub done : (g : Graph) → AreEditsBelow g.vertex_count es → IsPart g p → IsDone es p g rows counts

-- a page of a shard to which edits are applied, from one of its vertices on
pub record IsPageOf (es : List Edit) (p : Part) (first : ℕ) (page : Lists) : Type 0 where
  pub shard : IsShard p
  pub own : AreEditsOf p es
  pub within : first + length (rows_of page) ≤ length p.rows
  pub rows : (k : ℕ) → k < length (rows_of page) → slice_index_or (rows_of page) k [] ≡ row_at p (first + k)
  pub homes : (k : ℕ) → k < length (rows_of page) → slice_index_or (homes_of page) k Block ≡ home_at p (first + k)

-- and the lists before it are made
pub record IsNext (es : List Edit) (first : ℕ) (page : Lists) (counts : Counts) : Type 0 where
  pub part : Part
  pub its : IsPageOf es part first page
  pub rows : List (List ℕ)
  pub homes : List Home
  pub start : length rows ≡ first
  pub begun : AreBegun es part rows homes counts

-- the page after edits, and the counts up to its end, where those are the counts of the lists before it
pub record IsPageAfter (es : List Edit) (first : ℕ) (page : Lists) (counts : Counts) (next : Lists) (done : Counts) : Type 0 where
  pub kept : AreKept next
  pub count : length (rows_of next) ≡ length (rows_of page)
  pub begun : (p : Part) (rows : List (List ℕ)) (homes : List Home) → IsPageOf es p first page → length rows ≡ first
      → AreBegun es p rows homes counts → AreBegun es p (rows ++ rows_of next) (homes ++ homes_of next) done

-- a vertex of a shard to which edits are applied, its list, and that list's home
pub record IsVertexOf (es : List Edit) (p : Part) (vertex : ℕ) (row : List ℕ) (home : Home) : Type 0 where
  pub shard : IsShard p
  pub own : AreEditsOf p es
  pub within : vertex < length p.rows
  pub own_row : row ≡ row_at p vertex
  pub own_home : home ≡ home_at p vertex

-- of some shard
pub record IsSomeVertex (es : List Edit) (vertex : ℕ) (row : List ℕ) (home : Home) : Type 0 where
  pub part : Part
  pub its : IsVertexOf es part vertex row home

-- its list after the edits stands last among others, and with it one vertex more of the shard is made
pub record IsPutLast (es : List Edit) (vertex : ℕ) (row : List ℕ) (home : Home) (more : Counts) (old new : Lists) : Type 0 where
  pub after : List ℕ
  pub to : Home
  pub pushed : IsPushed old new after to
  pub few : (p : Part) (rows : List (List ℕ)) (homes : List Home) (counts : Counts) → IsVertexOf es p vertex row home
      → length rows ≡ vertex → AreBegun es p rows homes counts
      → (counts.added + more.added < 2 ^ 64) × (counts.removed + more.removed < 2 ^ 64)
  pub begun : (p : Part) (rows : List (List ℕ)) (homes : List Home) (counts : Counts) → IsVertexOf es p vertex row home
      → length rows ≡ vertex → AreBegun es p rows homes counts
      → AreBegun es p (rows ++ after ∷ []) (homes ++ to ∷ [])
      record { added = counts.added + more.added; removed = counts.removed + more.removed }
