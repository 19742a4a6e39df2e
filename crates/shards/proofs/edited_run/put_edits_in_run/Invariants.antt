use Rattle.std.proofs.Common.{◌≡◌, ◌≤◌, ℕ, Bool, Some, filter, set}
use Rattle.graph_model.specs.Graph.{numbers_below}
use Rattle.gapped_array.specs.Table.{IsOpen, list_at}
use Rattle.shards.specs.Merge.{AreEditsFrom}
use Rattle.shards.proofs.MergeLemmas.{IsMerging}
use Rattle.shards.proofs.PutLemmas.{unmoved}
use Rattle.shards.proofs.edited_run.put_edits_in_run.Given as goal

abbrev pub invariant-loop-place : goal.invariant-loop-place
invariant-loop-place l = record {
  merging : (u n : ℕ) (p : ℕ → Bool) → AreEditsFrom u n l.edits → list_at l.initial.array l.run ≡ filter p (numbers_below n) → IsMerging n p l.edits u l.place (unmoved (list_at l.array l.run) l.counts);
  opened : IsOpen l.array l.run;
  rest : l.array ≡ set l.initial.array l.run (Some (list_at l.array l.run));
  few_added : l.counts.added ≤ l.place;
  few_removed : l.counts.removed ≤ l.place;
}
