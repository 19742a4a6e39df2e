-- The targets of one vertex before and after its edits.
use Rattle.std.specs.Prelude.{◌≡◌, ℕ, ◌+◌, ◌<◌, Bool, ◌&&◌, not, List, [], ◌∷◌, ◌++◌, length, take, drop, filter, Result, Ok, Err, unwrap_or}
use Rattle.std.specs.List.{AllByRecursion}
use Rattle.std.specs.List.Sorted.{IsBinarySearchResult}
use Rattle.std.specs.Ordering.{nat_cmp}
use Rattle.past_model.specs.declared.edit.Edit.{Edit}
use Rattle.past_model.specs.declared.edit.Edit.TheVariants.{Insert, Remove}
use Rattle.graph_model.specs.Graph.{numbers_below}
use Rattle.past_model.specs.Edits.{source_of, target_of, last_word}
use Rattle.shards.specs.declared.counts.Counts.{Counts}

-- whether a vertex u has an edge to v after edits, where p says whether it had one before
abbrev pub decision : List Edit → ℕ → (ℕ → Bool) → ℕ → Bool
decision es u p v = unwrap_or (last_word es u v) (p v)

-- edits of one vertex, to vertices below n
abbrev pub AreEditsFrom : ℕ → ℕ → List Edit → Type 0
AreEditsFrom u n es = AllByRecursion (λ e. (source_of e ≡ u) × (target_of e < n)) es

-- edits of a vertex in another order, which decide the same
pub record IsSameWord (u n : ℕ) (es fs : List Edit) : Type 0 where
  pub own : AreEditsFrom u n fs
  pub words : (v : ℕ) → last_word fs u v ≡ last_word es u v

-- the targets after edits, and how many are new and how many are gone
pub record IsMerged (es : List Edit) (u n : ℕ) (p : ℕ → Bool) (after : List ℕ) (counts : Counts) : Type 0 where
  pub list : after ≡ filter (decision es u p) (numbers_below n)
  pub gained : counts.added ≡ length (filter (λ v. decision es u p v && not (p v)) (numbers_below n))
  pub lost : counts.removed ≡ length (filter (λ v. p v && not (decision es u p v)) (numbers_below n))

-- a merge under way: the targets that are merged, those that are left, and what was counted
pub record Merging : Type 0 where
  pub merged : List ℕ
  pub rest : List ℕ
  pub counts : Counts

-- what an edit does to it where a search of its target in the rest gave this answer
abbrev pub merge_step : Edit → Result ℕ ℕ → Merging → Merging
merge_step (Insert u t) (Ok i) m = m
merge_step (Insert u t) (Err i) m =
    record { merged = (m.merged ++ take i m.rest) ++ t ∷ []; rest = drop i m.rest; counts = record { added = m.counts.added + 1; removed = m.counts.removed } }
merge_step (Remove u t) (Ok i) m =
    record { merged = m.merged ++ take i m.rest; rest = drop (i + 1) m.rest; counts = record { added = m.counts.added; removed = m.counts.removed + 1 } }
merge_step (Remove u t) (Err i) m = m

abbrev pub IsEdited : Edit → Merging → Merging → Type 0
IsEdited e m k = (r : Result ℕ ℕ) × IsBinarySearchResult (λ y. nat_cmp y (target_of e)) m.rest r × (k ≡ merge_step e r m)
