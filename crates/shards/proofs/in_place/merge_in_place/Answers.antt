use Rattle.std.proofs.Common.{[], length, get_or, sym, ap, subst, ◌∙◌}
use Rattle.past_model.specs.declared.home.Home.TheVariants.{Block}
use Rattle.past_model.specs.Homes.{home_after}
use Rattle.past_model.proofs.HomeLemmas.{homes_stay}
use Rattle.word_sets.specs.Words.{IsSet}
use Rattle.shards.specs.Lists.{IsPutInBlock, rows_of}
use Rattle.shards.proofs.PutLemmas.{own_set}
use Rattle.shards.proofs.in_place.merge_in_place.Goals as goal

pub put_words-requires-clause-set : goal.put_words-requires-clause-set
put_words-requires-clause-set c =
    let row = get_or (rows_of c.args.lists.now) c.args.vertex [] in
    subst IsSet (sym c.words.ensures) (own_set _ row c.edited_list.new.merged c.in_ok-more.more c.requires.edits c.in_ok-more.ensures)

pub returns : goal.returns
returns c =
    let after = c.edited_list.new.merged in
    let put = subst (IsPutInBlock c.args.lists.now c.put_words.new.self c.args.vertex) c.words.ensures (c.in_ok-put_words.ensures c.if-not-branch.false) in
    record {
      after = after;
      to = Block;
      replaced = put.replaced;
      moved = sym (homes_stay Block (length after) put.few) ∙ ap (λ h. home_after h (length after)) (sym put.home);
      merged = c.in_ok-more.ensures;
    }
