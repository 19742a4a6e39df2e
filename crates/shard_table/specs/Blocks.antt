-- The parts of a table in blocks, and those of some ranges under edit.
use Rattle.std.specs.Prelude.{◌≡◌, ℕ, ◌+◌, ◌*◌, ◌<◌, ◌≤◌, min, Bool, List, [], ◌∷◌, length, map, replicate}
use Rattle.std.specs.List.{AllByRecursion, flat_map}
use Rattle.std.specs.declared.sync.Arc.{Arc}
use Rattle.std.specs.declared.alloc.Global.{Global}
use Rattle.std.specs.Arc.{arc_value}
use Rattle.past_model.specs.declared.limits.TheConstants.{MOST_VERTICES, RANGE_VERTICES}
use Rattle.past_model.specs.declared.edit.Edit.{Edit}
use Rattle.past_model.specs.declared.home.Home.TheVariants.{Block}
use Rattle.graph_model.specs.Graph.{Graph, count_pairs}
use Rattle.past_model.specs.Edits.{after_batch, AreEditsBelow}
use Rattle.shards.specs.declared.counts.Counts.{Counts}
use Rattle.shards.specs.Part.{Part, AreHomes, AreHomesAfter}
use Rattle.shards.specs.Begun.{is_new, is_gone}
use Rattle.shard_table.specs.Table.{IsPartAt, part_at}

-- the parts that blocks show, one block after another
abbrev pub parts_in : List (Arc (List Part) Global) → List Part
parts_in blocks = flat_map arc_value blocks

abbrev pub sizes_of : List (Arc (List Part) Global) → List ℕ
sizes_of blocks = map (λ block. length (arc_value block)) blocks

-- parts of a graph, one for each range from one on
pub record ArePartsFrom (g : Graph) (first : ℕ) (parts : List Part) : Type 0 where
  pub inside : (k : ℕ) → k < length parts → RANGE_VERTICES * (first + k) < g.vertex_count
  pub each : (k : ℕ) → k < length parts → IsPartAt g (first + k) (part_at parts k)

-- they are of a graph, and the edits are among its vertices
pub record AreEditable (first : ℕ) (parts : List Part) (es : List Edit) : Type 0 where
  pub graph : Graph
  pub small : graph.vertex_count ≤ MOST_VERTICES
  pub own : ArePartsFrom graph first parts
  pub below : AreEditsBelow graph.vertex_count es

-- how many vertices are in the first ranges
abbrev pub vertices_in : ℕ → ℕ → ℕ
vertices_in n ranges = min n (RANGE_VERTICES * ranges)

-- how many pairs pass a test whose source is in the first ranges
abbrev pub count_in : Graph → ℕ → (ℕ → ℕ → Bool) → ℕ
count_in g ranges test = count_pairs (vertices_in g.vertex_count ranges) g.vertex_count test

-- the parts from a range on after edits of the graph, and how many edges out of them are new and are gone
pub record AreEdited (es : List Edit) (g : Graph) (first : ℕ) (parts : List Part) (counts : Counts) : Type 0 where
  pub each : (k : ℕ) → k < length parts → IsPartAt (after_batch es g) (first + k) (part_at parts k)
  pub gained : counts.added + count_in g first (is_new es g) ≡ count_in g (first + length parts) (is_new es g)
  pub lost : counts.removed + count_in g first (is_gone es g) ≡ count_in g (first + length parts) (is_gone es g)

-- each list of each part is in its block
abbrev pub AreInBlocks : List Part → Type 0
AreInBlocks parts = AllByRecursion (λ p. p.homes ≡ replicate (length p.rows) Block) parts

-- each list of each part is in a home that may keep it
abbrev pub AreHoused : List Part → Type 0
AreHoused parts = AllByRecursion AreHomes parts

-- a part after edits has as many lists, each at home where it was or where it had to move
pub record IsRehoused (p q : Part) : Type 0 where
  pub count : length q.rows ≡ length p.rows
  pub homes : AreHomesAfter p q

-- and each of many parts
abbrev pub AreRehoused : List Part → List Part → Type 0
AreRehoused [] [] = Unit {0}
AreRehoused [] (q ∷ qs) = ⊥
AreRehoused (p ∷ ps) [] = ⊥
AreRehoused (p ∷ ps) (q ∷ qs) = IsRehoused p q × AreRehoused ps qs
