-- The lists of a range's vertices in pages.
use Rattle.std.specs.Prelude.{◌≡◌, ℕ, ◌+◌, ◌<◌, ◌≤◌, List, length, map, slice_index_or}
use Rattle.std.specs.List.{AllByRecursion, flat_map}
use Rattle.std.specs.declared.sync.Arc.{Arc}
use Rattle.std.specs.declared.alloc.Global.{Global}
use Rattle.std.specs.Arc.{arc_value}
use Rattle.past_model.specs.declared.home.Home.{Home}
use Rattle.shards.specs.declared.lists.Lists.{Lists}
use Rattle.shards.specs.Lists.{rows_of, homes_of, AreKept}
use Rattle.shards.specs.Part.{Part}

-- the lists of pages, one page after another, and their homes
abbrev pub rows_in : List (Arc Lists Global) → List (List ℕ)
rows_in pages = flat_map (λ page. rows_of (arc_value page)) pages

abbrev pub homes_in : List (Arc Lists Global) → List Home
homes_in pages = flat_map (λ page. homes_of (arc_value page)) pages

-- as a part of a graph
abbrev pub part_in : ℕ → List (Arc Lists Global) → Part
part_in range pages = record { range = range; rows = rows_in pages; homes = homes_in pages }

-- how many lists each page has
abbrev pub sizes_in : List (Arc Lists Global) → List ℕ
sizes_in pages = map (λ page. length (rows_of (arc_value page))) pages

-- each of these sizes but the last is the width, and the last one at most that
pub record AreFull (width : ℕ) (sizes : List ℕ) : Type 0 where
  pub full : (i : ℕ) → i + 1 < length sizes → slice_index_or sizes i 0 ≡ width
  pub few : (i : ℕ) → i < length sizes → slice_index_or sizes i 0 ≤ width

-- each list is where its page says, and each page but the last has as many as the size says
pub record ArePages (size : ℕ) (pages : List (Arc Lists Global)) : Type 0 where
  pub kept : AllByRecursion (λ page. AreKept (arc_value page)) pages
  pub full : AreFull size (sizes_in pages)
