use Rattle.std.proofs.Common.{◌≡◌, ◌+◌, ◌<◌, ◌≤◌, ℕ, List, Option, Some, length, set, refl, sym, ap, subst, ◌∙◌, arith}
use Rattle.past_model.specs.declared.edit.Edit.TheVariants.{Insert}
use Rattle.gapped_array.specs.Table.{IsOpen, list_at}
use Rattle.shards.proofs.MergeLemmas.{IsMerging, no_edit_merged, all_edits_merged, superseded, strictly_later}
use Rattle.shards.proofs.PutLemmas.{unmoved, put_one, few_put}
use Rattle.shards.proofs.RunLemmas.{run_as_it_is, run_again}
use Rattle.shards.proofs.edited_run.put_edits_in_run.Goals as goal
use Rattle.shards.proofs.edited_run.put_edits_in_run.Goals.{then-not-is_superseded+in_ok-put_edit, else-not-is_superseded}

pub loop-place-init : goal.loop-place-init
loop-place-init c = record {
  merging = λ u n p from is. no_edit_merged n p c.args.edits.now u (list_at c.args.array.now c.args.run) is;
  opened = c.requires.open;
  rest = run_as_it_is c.args.array.now c.args.run c.requires.open;
  few_added = omega arith;
  few_removed = omega arith;
}

pub loop-place-preserved : goal.loop-place-preserved
loop-place-preserved c =
    let es = c.args.edits.now in
    let run = c.args.run in
    let i = c.loop-place.place in
    let inside : i < length es = c.loop-place-test.true in
    let few_added = c.loop-place.invariant.few_added in
    let few_removed = c.loop-place.invariant.few_removed in
    let joined = c.if-not-is_superseded in
    elim joined.branch [
      | then-not-is_superseded+in_ok-put_edit w ↦ (
          let xs = list_at c.loop-place.array run in
          let ys = list_at w.put_edit.new.array run in
          let before = c.loop-place.counts in
          let after = w.put_edit.new.counts in
          let put = w.in_ok-put_edit.ensures in
          let same : unmoved ys after ≡ unmoved (list_at joined.array run) joined.counts = sym (ap (λ (a : List (Option (List ℕ))). unmoved (list_at a run) joined.counts) w.array-is ∙ ap (unmoved ys) w.counts-is) in
          let few = few_put _ xs ys before after put.put in
          let counts = w.counts-is in
          let again = run_again c.args.array.now c.loop-place.array w.put_edit.new.array run c.requires.open c.loop-place.invariant.rest put.rest in
          record {
            merging = λ u n p from is.
                subst (IsMerging n p es u (i + 1)) same
                (put_one n p es u i xs ys before after _ _ (c.loop-place.invariant.merging u n p from is) from inside refl (strictly_later es i _ c.requires.sorted inside (λ next. w.if-not-is_superseded.ensures.no refl next _)) put.put);
            opened = subst (λ a. IsOpen a run) (sym w.array-is) again.0;
            rest = subst (λ a. a ≡ set c.args.array.now run (Some (list_at a run))) (sym w.array-is) again.1;
            few_added = subst (λ n. n.added ≤ i + 1) (sym counts) (omega (arith, few.0, few_added));
            few_removed = subst (λ n. n.removed ≤ i + 1) (sym counts) (omega (arith, few.1, few_removed));
          })
      | else-not-is_superseded w ↦ (
          let before = unmoved (list_at c.loop-place.array run) c.loop-place.counts in
          let same : before ≡ unmoved (list_at joined.array run) joined.counts = sym (ap (λ (a : List (Option (List ℕ))). unmoved (list_at a run) joined.counts) w.array-is ∙ ap (unmoved (list_at c.loop-place.array run)) w.counts-is) in
          let counts = w.counts-is in
          record {
            merging = λ u n p from is.
                subst (IsMerging n p es u (i + 1)) same
                (superseded n p es u i before (Insert 0 0) (c.loop-place.invariant.merging u n p from is) from (w.if-not-is_superseded.ensures.yes refl) (w.if-not-is_superseded.ensures.same refl (Insert 0 0)));
            opened = subst (λ a. IsOpen a run) (sym w.array-is) c.loop-place.invariant.opened;
            rest = subst (λ a. a ≡ set c.args.array.now run (Some (list_at a run))) (sym w.array-is) c.loop-place.invariant.rest;
            few_added = subst (λ n. n.added ≤ i + 1) (sym counts) (omega (arith, few_added));
            few_removed = subst (λ n. n.removed ≤ i + 1) (sym counts) (omega (arith, few_removed));
          })
    ]

pub returns-clause-merged : goal.returns-clause-merged
returns-clause-merged c =
    λ u n p from is. all_edits_merged n p c.args.edits.now u c.loop-place.place (unmoved (list_at c.loop-place.array c.args.run) c.loop-place.counts) (c.loop-place.invariant.merging u n p from is) (omega arith)
