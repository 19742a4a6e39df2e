use Rattle.std.proofs.Common.{[], length, get_or, sym, ap, ap₂, subst, ◌∙◌, arith}
use Rattle.past_model.specs.Homes.{home_after}
use Rattle.word_sets.specs.Words.{IsSet}
use Rattle.shards.specs.Lists.{IsPushed, rows_of}
use Rattle.shards.proofs.ListLemmas.{few_words}
use Rattle.shards.proofs.PutLemmas.{own_set}
use Rattle.shards.proofs.edited_vertex.push_merged.Goals as goal

pub overflow_cast-words : goal.overflow_cast-words
overflow_cast-words c =
    let row = get_or (rows_of c.args.page.now) c.args.place [] in
    let set : IsSet c.words-words.result.now = subst IsSet (sym c.words-words.ensures) (own_set _ row c.edited_list.new.merged c.in_ok-more.more c.requires.edits c.in_ok-more.ensures) in
    omega (arith, few_words c.words-words.result.now set)

pub push-requires-clause-set : goal.push-requires-clause-set
push-requires-clause-set c =
    let row = get_or (rows_of c.args.page.now) c.args.place [] in
    subst IsSet (sym c.words-words.ensures) (own_set _ row c.edited_list.new.merged c.in_ok-more.more c.requires.edits c.in_ok-more.ensures)

pub returns : goal.returns
returns c =
    let words = c.words-words.ensures in
    let pushed = c.in_ok-push.ensures.pushed in
    record {
      after = c.edited_list.new.merged;
      to = c.after-home.result;
      pushed = subst (λ l. IsPushed c.args.scratch.now.lists c.push.new.self l c.after-home.result) words pushed;
      moved = c.after-home.ensures ∙ ap₂ home_after c.home.ensures (ap length words);
      merged = c.in_ok-more.ensures;
    }
