-- What a version writes of many vertices: how many neighbours each has, and their lists.
use Rattle.std.specs.Prelude.{◌≡◌, ◌≢◌, ℕ, ◌+◌, ◌<◌, ◌≤◌, ◌==◌, ◌&&◌, nat_le, if◌then◌else◌, List, ◌++◌, length, map, take, drop}
use Rattle.std.specs.List.{flat_map}
use Rattle.graph_model.specs.Graph.{Graph, numbers_below, neighbours, degree}
use Rattle.past_model.specs.declared.limits.TheConstants.{MOST_VERTICES}
use Rattle.embedding.specs.declared.statuses.TheConstants.{DONE, LENGTHS}

-- the neighbours of some vertices, one vertex after another, as often as it stands there
abbrev pub lists_of : Graph → List ℕ → List ℕ
lists_of g vertices = flat_map (neighbours g) vertices

-- how many neighbours the first vertices of a frontier have together: where the next one's list begins
abbrev pub list_begins : Graph → List ℕ → ℕ → ℕ
list_begins g frontier n = length (lists_of g (take n frontier))

-- where each vertex's list begins, and the end of them all
abbrev pub list_starts : Graph → List ℕ → List ℕ
list_starts g frontier = map (list_begins g frontier) (numbers_below (length frontier + 1))

-- a frontier that is not too long, one place for each vertex and one more, and at least one for each neighbour
abbrev pub lists_status : Graph → (frontier starts targets : List ℕ) → ℕ
lists_status g frontier starts targets =
    if nat_le (length frontier) MOST_VERTICES && ((length starts == length frontier + 1) && nat_le (length (lists_of g frontier)) (length targets))
    then DONE
    else LENGTHS

-- what a call does for the lists of a frontier, of which it reports how many neighbours they have
pub record AreLists (g : Graph) (frontier : List ℕ) (status : ℕ) (starts targets : List ℕ) (count : ℕ) (new_starts new_targets : List ℕ) (new_count : ℕ) : Type 0 where
  pub status_is : status ≡ lists_status g frontier starts targets
  pub counted : length frontier ≤ MOST_VERTICES → new_count ≡ length (lists_of g frontier)
  pub uncounted : MOST_VERTICES < length frontier → new_count ≡ count
  pub places : status ≡ DONE → new_starts ≡ list_starts g frontier
  pub lists : status ≡ DONE → new_targets ≡ lists_of g frontier ++ drop (length (lists_of g frontier)) targets
  pub left : status ≢ DONE → (new_starts ≡ starts) × (new_targets ≡ targets)

-- one place for each vertex
abbrev pub degrees_status : (frontier counts : List ℕ) → ℕ
degrees_status frontier counts = if length counts == length frontier then DONE else LENGTHS

-- what a call does for the degrees of a frontier
pub record AreDegrees (g : Graph) (frontier : List ℕ) (status : ℕ) (counts new_counts : List ℕ) : Type 0 where
  pub status_is : status ≡ degrees_status frontier counts
  pub done : status ≡ DONE → new_counts ≡ map (degree g) frontier
  pub left : status ≢ DONE → new_counts ≡ counts
