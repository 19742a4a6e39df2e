use Rattle.std.proofs.Common.{◌<◌, length, sym, ap, subst, ◌∙◌, arith}
use Rattle.std.specs.List.{AllByRecursion}
use Rattle.word_sets.specs.declared.places.TheConstants.{WORD_LIMIT}
use Rattle.gapped_array.specs.Table.{list_at}
use Rattle.past_model.specs.declared.home.Home.TheVariants.{Gapped}
use Rattle.past_model.specs.Edits.{target_of}
use Rattle.past_model.specs.Homes.{home_after}
use Rattle.shards.specs.Merge.{AreEditsFrom, IsMerged}
use Rattle.shards.proofs.ListLemmas.{few_words}
use Rattle.shards.proofs.RunLemmas.{run_stays_open}
use Rattle.shards.proofs.WordLemmas.{merged_same}
use Rattle.shards.proofs.PutLemmas.{own_targets}
use Rattle.shards.proofs.in_place.edit_run.Goals as goal

pub put_edits_in_run-requires-clause-targets : goal.put_edits_in_run-requires-clause-targets
put_edits_in_run-requires-clause-targets c = subst (AllByRecursion (λ e. target_of e < WORD_LIMIT)) (sym c.deref.ensures.value) (c.in_ok-sort_by_target.ensures.targets WORD_LIMIT (own_targets c.args.edits.now.items (list_at c.args.array.now c.args.run) c.requires.edits))

pub words-requires : goal.words-requires
words-requires c = run_stays_open c.args.array.now c.put_edits_in_run.new.array c.args.run (list_at c.put_edits_in_run.new.array c.args.run) c.requires.open c.in_ok-more.ensures.rest

pub overflow_cast-words : goal.overflow_cast-words
overflow_cast-words c = omega (arith, few_words c.words.result.now c.words.ensures.set)

pub returns-in-Gapped : goal.returns-in-Gapped
returns-in-Gapped c = record {
  edited = record {
    stays = sym c.in-Gapped.is ∙ c.after.ensures ∙ ap (home_after Gapped) (ap length c.words.ensures.words);
    merged = λ u n p own is.
        (let same = c.in_ok-sort_by_target.ensures.same u n own in
        let after = list_at c.put_edits_in_run.new.array c.args.run in
        let more = c.in_ok-more.more in
        let sorted = c.in_ok-more.ensures.merged u n p (subst (AreEditsFrom u n) (sym c.deref.ensures.value) same.own) is in
        merged_same c.args.edits.now.items c.sort_by_target.new.edits.items u n p after more same (subst (λ l. IsMerged l u n p after more) c.deref.ensures.value sorted));
  };
  rest = c.in_ok-more.ensures.rest;
}
