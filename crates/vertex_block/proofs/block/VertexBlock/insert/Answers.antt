use Rattle.std.proofs.Common.{◌≡◌, true, insert, sym, subst, ap, ◌∙◌}
use Rattle.word_sets.specs.Words.{IsSet, has_word}
use Rattle.word_sets.specs.declared.places.TheConstants.{WORD_LIMIT}
use Rattle.word_sets.proofs.Changes.{IsSet-insert, with_present}
use Rattle.vertex_block.proofs.block.VertexBlock.insert.Goals as goal

pub of-requires-clause-set : goal.of-requires-clause-set
of-requires-clause-set c =
    let same = c.list_of-list.ensures ∙ c.as_slice-in-Err.ensures.words ∙ sym c.as_slice.ensures.words in
    IsSet-insert c.args.word c.in-Err.at c.as_slice.result.now c.as_slice-in-Err-2.result.now c.as_slice.ensures.set c.requires.word (c.as_slice-in-Err-2.ensures.value ∙ c.insert.ensures.items ∙ ap (λ l. insert l c.in-Err.at c.args.word) same) c.in-Err.ensures.1

pub returns-in-Ok-clause-words : goal.returns-in-Ok-clause-words
returns-in-Ok-clause-words c =
    let present : has_word c.args.word c.args.self.now ≡ true = ap (has_word c.args.word) (sym c.as_slice.ensures.words) ∙ c.in-Ok.ensures.2 in
    sym (with_present 0 WORD_LIMIT c.args.word c.args.self.now (subst IsSet c.as_slice.ensures.words c.as_slice.ensures.set) present)
