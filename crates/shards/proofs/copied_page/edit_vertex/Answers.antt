use Rattle.std.proofs.Common.{[], ◌∷◌, get_or, sym, ap, subst, ◌∙◌, rules}
use Rattle.word_sets.specs.Words.{IsSet}
use Rattle.shards.specs.Lists.{rows_of}
use Rattle.shards.specs.Put.{AreOwnEdits}
use Rattle.shards.proofs.PutLemmas.{own_set}
use Rattle.shards.proofs.copied_page.edit_vertex.Goals as goal

pub put_words-requires-clause-set : goal.put_words-requires-clause-set
put_words-requires-clause-set c =
    let row = get_or (rows_of c.args.lists.now) c.args.place [] in
    let e = c.in-Some.edit.now in
    let own : AreOwnEdits (e ∷ []) row = subst (λ es. AreOwnEdits es row) (search rules) c.requires.edits in
    subst IsSet (sym c.deref.ensures.0)
    (own_set (e ∷ []) row c.edited-words.result.0.items c.edited-words.result.1 own
    (λ u n p from is. c.edited-words.ensures u n p from (search rules)))

pub edit_in_place-requires-clause-edits : goal.edit_in_place-requires-clause-edits
edit_in_place-requires-clause-edits c =
    subst (λ es. AreOwnEdits es (get_or (rows_of c.args.lists.now) c.args.place [])) (sym c.in_ok-read.ensures) c.requires.edits
