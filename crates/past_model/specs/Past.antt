-- A version is what its log makes of its base: so many vertices, the graph that the log begins with, and the batches since.
use Rattle.std.specs.Prelude.{◌≡◌, ◌==◌, ℕ, ◌≤◌, List, [], ◌∷◌, ◌++◌, length, filter, slice_index_or}
use Rattle.std.specs.List.{AllByRecursion, list_any}
use Rattle.past_model.specs.declared.home.Home.{Home}
use Rattle.past_model.specs.declared.home.Home.TheVariants.{Block}
use Rattle.past_model.specs.declared.entry.Entry.{Entry}
use Rattle.graph_model.specs.Graph.{Graph, IsGraph}
use Rattle.past_model.specs.Edits.{after_batch, AreEditsBelow}

-- what a log begins with: of each vertex the targets of its edges, ascending, and the home of that list. A vertex past the end
-- of these lists has no edge, and its home is its block
pub record Base : Type 0 where
  pub rows : List (List ℕ)
  pub homes : List Home

-- the base of the first epoch: no edge
abbrev pub no_base : Base
no_base = record { rows = []; homes = [] }

-- what a version is the replay of: its base; a mark of each epoch that ended, which has how many batches came by each feed; and
-- the batches of its own epoch
pub record Past : Type 0 where
  pub vertex_count : ℕ
  pub base : Base
  pub marks : List (List ℕ)
  pub log : List Entry

-- the graph after the batches of a log, in order
abbrev pub replay : List Entry → Graph → Graph
replay [] g = g
replay (e ∷ es) g = replay es (after_batch e.batch g)

-- the graph that the log begins with
abbrev pub base_graph : Past → Graph
base_graph p = record {
  vertex_count = p.vertex_count;
  has_edge = λ u v. list_any (λ w. v == w) (slice_index_or p.base.rows u []);
}

-- the home of a vertex where the log begins
abbrev pub base_home : Past → ℕ → Home
base_home p v = slice_index_or p.base.homes v Block

-- a version's graph is the replay of its log on its base
abbrev pub graph_of : Past → Graph
graph_of p = replay p.log (base_graph p)

-- a version's number is how many batches its log has
abbrev pub number_of : Past → ℕ
number_of p = length p.log

-- its epoch is how many ended before it
abbrev pub epoch_of : Past → ℕ
epoch_of p = length p.marks

-- the past of so many vertices with this log, in the first epoch
abbrev pub past_in : ℕ → List Entry → Past
past_in n log = record { vertex_count = n; base = no_base; marks = []; log = log }

-- nothing is published yet
abbrev pub opening : ℕ → Past
opening n = past_in n []

-- one batch more
abbrev pub longer : Past → Entry → Past
longer p e = record p { log = p.log ++ e ∷ [] }

-- the base is of vertices, and so is every edit of the log
pub record IsPast (p : Past) : Type 0 where
  pub base : IsGraph (base_graph p)
  pub homes : (v : ℕ) → p.vertex_count ≤ v → base_home p v ≡ Block
  pub log : AllByRecursion (λ (e : Entry). AreEditsBelow p.vertex_count e.batch) p.log

-- those of a log's batches that came by a feed
abbrev pub of_feed : ℕ → List Entry → List Entry
of_feed feed es = filter (λ (e : Entry). e.feed == feed) es
