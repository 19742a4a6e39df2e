use Rattle.std.proofs.Common.{◌<◌, sym, ap, subst, ◌∙◌}
use Rattle.std.specs.List.{AllByRecursion}
use Rattle.word_sets.specs.declared.places.TheConstants.{WORD_LIMIT}
use Rattle.past_model.specs.declared.home.Home.TheVariants.{Tree}
use Rattle.past_model.specs.Edits.{target_of}
use Rattle.past_model.specs.Homes.{home_after}
use Rattle.shards.specs.Merge.{AreEditsFrom, IsMerged}
use Rattle.shards.proofs.WordLemmas.{merged_same}
use Rattle.shards.proofs.PutLemmas.{own_targets}
use Rattle.shards.proofs.in_place.edit_tree.Goals as goal

pub put_edits-requires-clause-targets : goal.put_edits-requires-clause-targets
put_edits-requires-clause-targets c = subst (AllByRecursion (λ e. target_of e < WORD_LIMIT)) (sym c.deref.ensures.value) (c.in_ok-sort_by_target.ensures.targets WORD_LIMIT (own_targets c.args.edits.now.items c.args.tree.now c.requires))

pub returns-in-Tree : goal.returns-in-Tree
returns-in-Tree c = record {
  stays = sym c.in-Tree.is ∙ c.after.ensures ∙ ap (home_after Tree) c.len-3.ensures.len;
  merged = λ u n p own is.
      (let same = c.in_ok-sort_by_target.ensures.same u n own in
      let after = c.put_edits.new.tree in
      let more = c.in_ok-more.more in
      let sorted = c.in_ok-more.ensures u n p (subst (AreEditsFrom u n) (sym c.deref.ensures.value) same.own) is in
      merged_same c.args.edits.now.items c.sort_by_target.new.edits.items u n p after more same (subst (λ l. IsMerged l u n p after more) c.deref.ensures.value sorted));
}
