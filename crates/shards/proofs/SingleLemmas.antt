-- A single edit, merged with the targets of its vertex.
use Rattle.std.proofs.Common.{◌≡◌, ℕ, ◌++◌, ◌∷◌, [], Bool, List, Result, filter, refl, sym, subst, subst₂, arith, nat_cmp}
use Rattle.std.specs.List.Sorted.{IsBinarySearchResult}
use Rattle.past_model.specs.declared.edit.Edit.{Edit}
use Rattle.past_model.specs.Edits.{target_of}
use Rattle.graph_model.specs.Graph.{numbers_below}
use Rattle.shards.specs.declared.counts.Counts.{Counts}
use Rattle.shards.specs.Merge.{AreEditsFrom, IsMerged, Merging, merge_step}
use Rattle.shards.proofs.MergeLemmas.{no_edit_merged, merge_one, all_edits_merged}

-- the merge of one edit, from its beginning on, by the answer of a search of its target
abbrev pub step_of : Edit → Result ℕ ℕ → List ℕ → Merging
step_of e r targets = merge_step e r record { merged = []; rest = targets; counts = record { added = 0; removed = 0 } }

-- the targets after it
abbrev pub list_after : Merging → List ℕ
list_after m = m.merged ++ m.rest

pub single_merged : (e : Edit) (r : Result ℕ ℕ) (targets : List ℕ) (u n : ℕ) (p : ℕ → Bool) → IsBinarySearchResult (λ y. nat_cmp y (target_of e)) targets r → AreEditsFrom u n (e ∷ []) → targets ≡ filter p (numbers_below n)
    → IsMerged (e ∷ []) u n p (list_after (step_of e r targets)) (step_of e r targets).counts
single_merged e r targets u n p found from is =
    all_edits_merged n p (e ∷ []) u 1 (step_of e r targets)
    (merge_one n p (e ∷ []) u 0 record { merged = []; rest = targets; counts = record { added = 0; removed = 0 } } (step_of e r targets) e e
    (no_edit_merged n p (e ∷ []) u targets is) from (omega arith) refl (λ j q low high. absurd (omega arith)) (r, found, refl))
    (omega arith)

-- where the search was of the edit's own target, and this list and these counts are the merge's
pub merged_by : (e : Edit) (r : Result ℕ ℕ) (t : ℕ) (targets words : List ℕ) (counts : Counts) → t ≡ target_of e → IsBinarySearchResult (λ y. nat_cmp y t) targets r → words ≡ list_after (step_of e r targets) → counts ≡ (step_of e r targets).counts
    → (u n : ℕ) (p : ℕ → Bool) → AreEditsFrom u n (e ∷ []) → targets ≡ filter p (numbers_below n) → IsMerged (e ∷ []) u n p words counts
merged_by e r t targets words counts own found is same u n p from all =
    subst₂ (λ l k. IsMerged (e ∷ []) u n p l k) (sym is) (sym same)
    (single_merged e r targets u n p (subst (λ x. IsBinarySearchResult (λ y. nat_cmp y x) targets r) own found) from all)
