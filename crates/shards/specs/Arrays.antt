-- Edges in sorted arrays: where each vertex's list of targets begins, the end of them all after the last, and the targets.
use Rattle.std.specs.Prelude.{◌≡◌, ℕ, ◌+◌, ◌-◌, ◌*◌, ◌<◌, ◌≤◌, List, length, map, take, drop, slice_index_or}
use Rattle.past_model.specs.declared.limits.TheConstants.{RANGE_VERTICES}
use Rattle.past_model.specs.declared.home.Home.{Home}
use Rattle.past_model.specs.declared.home.Home.TheVariants.{Block}
use Rattle.past_model.specs.Homes.{home_after}
use Rattle.graph_model.specs.Graph.{numbers_below}
use Rattle.word_sets.specs.Words.{IsSet}
use Rattle.shards.specs.Part.{Part}

abbrev pub start_at : List ℕ → ℕ → ℕ
start_at starts v = slice_index_or starts v 0

-- a vertex's targets: from its start up to that of the next one
abbrev pub list_of : List ℕ → List ℕ → ℕ → List ℕ
list_of starts targets v = take (start_at starts (v + 1) - start_at starts v) (drop (start_at starts v) targets)

-- the home of a list that is the first one of its vertex
abbrev pub first_home : List ℕ → Home
first_home row = home_after Block (length row)

-- the lists of so many vertices from one on, and their homes
abbrev pub rows_from : List ℕ → List ℕ → ℕ → ℕ → List (List ℕ)
rows_from starts targets first count = map (λ k. list_of starts targets (first + k)) (numbers_below count)

abbrev pub homes_from : List ℕ → List ℕ → ℕ → ℕ → List Home
homes_from starts targets first count = map (λ k. first_home (list_of starts targets (first + k))) (numbers_below count)

-- each list lies among the targets, and is a set of vertices that a graph may have
pub record AreLists (starts targets : List ℕ) : Type 0 where
  pub ascending : (v : ℕ) → v + 1 < length starts → start_at starts v ≤ start_at starts (v + 1)
  pub within : (v : ℕ) → v + 1 < length starts → start_at starts (v + 1) ≤ length targets
  pub sets : (v : ℕ) → v + 1 < length starts → IsSet (list_of starts targets v)

-- the part of a range of so many vertices
abbrev pub part_from : List ℕ → List ℕ → ℕ → ℕ → Part
part_from starts targets range vertices = record {
  range = range;
  rows = rows_from starts targets (RANGE_VERTICES * range) vertices;
  homes = homes_from starts targets (RANGE_VERTICES * range) vertices;
}
