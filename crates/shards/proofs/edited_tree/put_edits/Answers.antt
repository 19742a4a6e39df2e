use Rattle.std.proofs.Common.{◌≡◌, ◌+◌, ◌<◌, ◌≤◌, length, refl, sym, ap, subst, ◌∙◌, arith}
use Rattle.past_model.specs.declared.edit.Edit.TheVariants.{Insert}
use Rattle.shards.proofs.MergeLemmas.{IsMerging, no_edit_merged, all_edits_merged, superseded, strictly_later}
use Rattle.shards.proofs.PutLemmas.{unmoved, put_one, few_put}
use Rattle.shards.proofs.edited_tree.put_edits.Goals as goal
use Rattle.shards.proofs.edited_tree.put_edits.Goals.{then-not-is_superseded+in_ok-put_edit, else-not-is_superseded}

pub loop-place-init : goal.loop-place-init
loop-place-init c = record {
  merging = λ u n p from is. no_edit_merged n p c.args.edits.now u c.args.tree.now is;
  few_added = omega arith;
  few_removed = omega arith;
}

pub loop-place-preserved : goal.loop-place-preserved
loop-place-preserved c =
    let es = c.args.edits.now in
    let i = c.loop-place.place in
    let inside : i < length es = c.loop-place-test.true in
    let few_added = c.loop-place.invariant.few_added in
    let few_removed = c.loop-place.invariant.few_removed in
    let joined = c.if-not-is_superseded in
    elim joined.branch [
      | then-not-is_superseded+in_ok-put_edit w ↦ (
          let xs = c.loop-place.tree in
          let ys = w.put_edit.new.tree in
          let before = c.loop-place.counts in
          let after = w.put_edit.new.counts in
          let same : unmoved ys after ≡ unmoved joined.tree joined.counts = sym (ap (λ l. unmoved l joined.counts) w.tree-is ∙ ap (unmoved ys) w.counts-is) in
          let few = few_put _ xs ys before after w.in_ok-put_edit.ensures in
          let counts = w.counts-is in
          record {
            merging = λ u n p from is.
                subst (IsMerging n p es u (i + 1)) same
                (put_one n p es u i xs ys before after _ _ (c.loop-place.invariant.merging u n p from is) from inside refl (strictly_later es i _ c.requires.sorted inside (λ next. w.if-not-is_superseded.ensures.no refl next _)) w.in_ok-put_edit.ensures);
            few_added = subst (λ n. n.added ≤ i + 1) (sym counts) (omega (arith, few.0, few_added));
            few_removed = subst (λ n. n.removed ≤ i + 1) (sym counts) (omega (arith, few.1, few_removed));
          })
      | else-not-is_superseded w ↦ (
          let before = unmoved c.loop-place.tree c.loop-place.counts in
          let same : before ≡ unmoved joined.tree joined.counts = sym (ap (λ l. unmoved l joined.counts) w.tree-is ∙ ap (unmoved c.loop-place.tree) w.counts-is) in
          let counts = w.counts-is in
          record {
            merging = λ u n p from is.
                subst (IsMerging n p es u (i + 1)) same
                (superseded n p es u i before (Insert 0 0) (c.loop-place.invariant.merging u n p from is) from (w.if-not-is_superseded.ensures.yes refl) (w.if-not-is_superseded.ensures.same refl (Insert 0 0)));
            few_added = subst (λ n. n.added ≤ i + 1) (sym counts) (omega (arith, few_added));
            few_removed = subst (λ n. n.removed ≤ i + 1) (sym counts) (omega (arith, few_removed));
          })
    ]

pub returns : goal.returns
returns c =
    λ u n p from is. all_edits_merged n p c.args.edits.now u c.loop-place.place (unmoved c.loop-place.tree c.loop-place.counts) (c.loop-place.invariant.merging u n p from is) (omega arith)
