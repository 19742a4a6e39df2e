-- A vertex's targets where they stand.
use Rattle.std.specs.Prelude.{ℕ, ◌<◌, ◌≤◌, List, [], length, drop, slice_index_or}
use Rattle.past_model.specs.declared.limits.TheConstants.{MOST_VERTICES}
use Rattle.shards.specs.declared.lists.Lists.{Lists}
use Rattle.shards.specs.Lists.{AreKept, rows_of}

-- a vertex's words in a page, from a place on
abbrev pub targets_at : Lists → ℕ → ℕ → List ℕ
targets_at page vertex place = drop place (slice_index_or (rows_of page) vertex [])

-- the vertex is one of the page's, and the place is one of its list or its end
pub record AreTargets (page : Lists) (vertex place : ℕ) : Type 0 where
  pub kept : AreKept page
  pub inside : vertex < length (rows_of page)
  pub place_is : place ≤ length (slice_index_or (rows_of page) vertex [])
  pub small : length (slice_index_or (rows_of page) vertex []) ≤ MOST_VERTICES
