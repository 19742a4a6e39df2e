-- A store of edges that are given in sorted arrays, as a host asks for it: which test fails first.
use Rattle.std.specs.Prelude.{◌≡◌, ◌≢◌, ℕ, suc, ◌+◌, ◌<◌, List, length, slice_index_or}
use Rattle.shards.specs.Arrays.{list_of}
use Rattle.version.specs.Version.{IsVertexCount}
use Rattle.version.specs.Sorted.{AreStarts}
use Rattle.embedding.specs.declared.statuses.TheConstants.{DONE, VERTEX_COUNT, VERTEX_RANGE, LENGTHS, NOT_SORTED}

-- each number is less than the next
abbrev pub Rises : List ℕ → Type 0
Rises xs = (k : ℕ) → suc k < length xs → slice_index_or xs k 0 < slice_index_or xs (suc k) 0

-- starts of lists, and the lists, ascend
pub record Ascend (n : ℕ) (starts targets : List ℕ) : Type 0 where
  pub places : AreStarts n starts targets
  pub lists : (v : ℕ) → v < n → Rises (list_of starts targets v)

-- each target is a vertex
abbrev pub AreVertices : ℕ → List ℕ → Type 0
AreVertices n targets = (k : ℕ) → k < length targets → slice_index_or targets k 0 < n

-- a test that fails says so, and those before it passed; `DONE` where all pass
pub record IsTested (n : ℕ) (starts targets : List ℕ) (status : ℕ) : Type 0 where
  pub count : status ≡ VERTEX_COUNT → IsVertexCount n → ⊥
  pub vertices : status ≢ VERTEX_COUNT → IsVertexCount n
  pub lengths : status ≡ LENGTHS → length starts ≡ n + 1 → ⊥
  pub long : status ≢ VERTEX_COUNT → status ≢ LENGTHS → length starts ≡ n + 1
  pub order : status ≡ NOT_SORTED → Ascend n starts targets → ⊥
  pub sorted : status ≢ VERTEX_COUNT → status ≢ LENGTHS → status ≢ NOT_SORTED → Ascend n starts targets
  pub range : status ≡ VERTEX_RANGE → AreVertices n targets → ⊥
  pub within : status ≡ DONE → AreVertices n targets
  pub done : status ≢ VERTEX_COUNT → status ≢ LENGTHS → status ≢ NOT_SORTED → status ≢ VERTEX_RANGE → status ≡ DONE
