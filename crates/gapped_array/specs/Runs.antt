-- Runs of segments in the cells of an array.
use Rattle.std.specs.Prelude.{◌≡◌, ◌≢◌, ℕ, ◌+◌, ◌-◌, ◌*◌, ◌<◌, ◌≤◌, ◌⊎◌, List, ◌++◌, length, replicate, MatchOption, map, sum_by, Option, Some, None, slice_index_or}
use Rattle.gapped_array.specs.declared.run.Run.{Run}
use Rattle.gapped_array.specs.declared.run.TheConstants.{SEGMENT, VERTICES}
use Rattle.gapped_array.specs.Cells.{piece}
use Rattle.word_sets.specs.Words.{IsSet}

-- the words of a run
abbrev pub words_in : List ℕ → Run → List ℕ
words_in xs r = piece (SEGMENT * r.segment) r.count xs

-- the list of a vertex, where its run is open
abbrev pub list_in : List ℕ → Option Run → Option (List ℕ)
list_in xs None = None
list_in xs (Some r) = Some (words_in xs r)

-- the lists of all vertices
abbrev pub lists_in : List ℕ → List (Option Run) → List (Option (List ℕ))
lists_in xs runs = map (list_in xs) runs

-- how many segments a vertex has
abbrev pub segments_of : Option Run → ℕ
segments_of None = 0
segments_of (Some r) = r.segments

-- how many segments open runs have
abbrev pub live : List (Option Run) → ℕ
live runs = sum_by segments_of runs

-- a run of an array of so many segments; one without segments counts as the first
pub record Fits (xs : List ℕ) (segments : ℕ) (r : Run) : Type 0 where
  pub inside : r.segment + r.segments ≤ segments
  pub count : r.count ≤ SEGMENT * r.segments
  pub none : r.segments ≡ 0 → r.segment ≡ 0
  pub words : IsSet (words_in xs r)

-- one run ends before the other begins
abbrev pub AreApart : Run → Run → Type 0
AreApart r s = (r.segment + r.segments ≤ s.segment) ⊎ (s.segment + s.segments ≤ r.segment)

-- a run for each of at most 256 vertices or none, each inside, and each apart from all others
pub record IsLayout (xs : List ℕ) (segments : ℕ) (runs : List (Option Run)) : Type 0 where
  pub table : length runs ≤ VERTICES
  pub cells : length xs ≡ SEGMENT * segments
  pub fits : (i : ℕ) (r : Run) → slice_index_or runs i None ≡ Some r → Fits xs segments r
  pub apart : (i j : ℕ) (r s : Run) → i ≢ j → slice_index_or runs i None ≡ Some r
      → slice_index_or runs j None ≡ Some s → AreApart r s

-- and there are at most twice the segments of open runs, and one a vertex
pub record IsArray (xs : List ℕ) (segments : ℕ) (runs : List (Option Run)) : Type 0 where
  pub layout : IsLayout xs segments runs
  pub space : segments ≤ 2 * live runs + VERTICES

-- where a run with a place free is after room was made for it: where it was, or after all segments
pub record HasRoom (segments : ℕ) (run : Run) (xs ys : List ℕ) (r : Run) : Type 0 where
  pub same : r.count ≡ run.count
  pub room : r.count < SEGMENT * r.segments
  pub found : ((ys ≡ xs) × (r.segment ≡ run.segment) × (r.segments ≡ run.segments))
      ⊎ ((ys ≡ xs ++ (words_in xs run ++ replicate (SEGMENT * r.segments - run.count) 0))
      × (r.segment ≡ segments) × (r.segments ≡ 2 * run.segments + 1))

-- a run that begins at or after a segment, and has some
abbrev pub IsBehind : ℕ → Run → Type 0
IsBehind from r = (from ≤ r.segment) × (0 < r.segments)

-- the first such run among the vertices below n, with its vertex, if there is one
abbrev pub IsFirstBelow : ℕ → ℕ → List (Option Run) → Option (ℕ × Run) → Type 0
IsFirstBelow n from runs o =
    MatchOption o
    ((i : ℕ) (r : Run) → i < n → slice_index_or runs i None ≡ Some r → ¬ (IsBehind from r))
    (λ p. (p.0 < n) × (slice_index_or runs p.0 None ≡ Some p.1) × IsBehind from p.1 × ((i : ℕ) (r : Run)
    → i < n → slice_index_or runs i None ≡ Some r → IsBehind from r → p.1.segment ≤ r.segment))
