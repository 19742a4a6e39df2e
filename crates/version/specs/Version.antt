-- What a version is kept to be.
use Rattle.std.specs.Prelude.{◌≡◌, ◌≤◌, ◌<◌, ◌+◌, ◌-◌, ◌^◌, ℕ, List}
use Rattle.past_model.specs.declared.limits.TheConstants.{MOST_VERTICES, MOST_BATCHES, MOST_EPOCHS}
use Rattle.graph_model.specs.Graph.{edge_count}
use Rattle.past_model.specs.declared.entry.Entry.{Entry}
use Rattle.past_model.specs.Edits.{added, removed}
use Rattle.past_model.specs.Past.{Past, IsPast, graph_of, number_of, epoch_of, longer}
use Rattle.past_model.specs.Homes.{home_of}
use Rattle.shards.specs.declared.counts.Counts.{Counts}
use Rattle.shards.specs.Part.{Part}
use Rattle.shard_table.specs.Table.{IsTable, home_in}

-- how many vertices a version may have
abbrev pub IsVertexCount : ℕ → Type 0
IsVertexCount n = (1 ≤ n) × (n ≤ MOST_VERTICES)

-- a version of a past: its parts and its number of edges are those of the graph that the log makes of the base, and its homes
-- those to which the log's batches led
pub record IsVersion (p : Past) (parts : List Part) (edges : ℕ) : Type 0 where
  pub table : IsTable (graph_of p) parts
  pub homes : (v : ℕ) → home_in parts v ≡ home_of p v
  pub edges_are : edges ≡ edge_count (graph_of p)
  pub some : 1 ≤ p.vertex_count
  pub most : p.vertex_count ≤ MOST_VERTICES
  pub past : IsPast p
  pub short : number_of p ≤ MOST_BATCHES
  pub epochs : epoch_of p ≤ MOST_EPOCHS

-- parts and counts that a batch made of a version: those of the version with one batch more, and what the batch did
pub record IsMade (p : Past) (e : Entry) (parts : List Part) (counts : Counts) : Type 0 where
  pub gained : counts.added ≡ added e.batch (graph_of p)
  pub lost : counts.removed ≡ removed e.batch (graph_of p)
  pub room : number_of p < MOST_BATCHES
  pub few : edge_count (graph_of p) + counts.added < 2 ^ 64
  pub some : counts.removed ≤ edge_count (graph_of p) + counts.added
  pub version : IsVersion (longer p e) parts (edge_count (graph_of p) + counts.added - counts.removed)
