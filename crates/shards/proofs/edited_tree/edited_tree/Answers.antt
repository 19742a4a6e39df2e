use Rattle.std.proofs.Common.{◌<◌, sym, subst}
use Rattle.std.specs.List.{AllByRecursion}
use Rattle.word_sets.specs.declared.places.TheConstants.{WORD_LIMIT}
use Rattle.past_model.specs.Edits.{target_of}
use Rattle.shards.specs.Merge.{AreEditsFrom, IsMerged}
use Rattle.shards.proofs.WordLemmas.{merged_same}
use Rattle.shards.proofs.edited_tree.edited_tree.Goals as goal

pub with_edits-requires-clause-targets : goal.with_edits-requires-clause-targets
with_edits-requires-clause-targets c = subst (AllByRecursion (λ e. target_of e < WORD_LIMIT)) (sym c.deref.ensures.value) (c.in_ok-sort_by_target.ensures.targets WORD_LIMIT c.requires)

pub returns : goal.returns
returns c =
    λ u n p own is.
    let same = c.in_ok-sort_by_target.ensures.same u n own in
    let pair = c.in_ok-next.next in
    let sorted = c.in_ok-next.ensures u n p (subst (AreEditsFrom u n) (sym c.deref.ensures.value) same.own) is in
    merged_same c.args.edits.now.items c.sort_by_target.new.edits.items u n p pair.0 pair.1 same (subst (λ l. IsMerged l u n p pair.0 pair.1) c.deref.ensures.value sorted)
