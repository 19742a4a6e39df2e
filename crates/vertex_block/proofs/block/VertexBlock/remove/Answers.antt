use Rattle.std.proofs.Common.{remove, sym, ap, ◌∙◌}
use Rattle.word_sets.specs.Words.{has_word}
use Rattle.word_sets.proofs.Changes.{IsSet-remove, without_absent}
use Rattle.vertex_block.proofs.block.VertexBlock.remove.Goals as goal

pub of-requires-clause-set : goal.of-requires-clause-set
of-requires-clause-set c =
    let same = c.list_of-list.ensures ∙ c.as_slice-in-Ok.ensures.words ∙ sym c.as_slice.ensures.words in
    IsSet-remove c.args.word c.in-Ok.at c.as_slice.result.now c.as_slice-in-Ok-2.result.now c.as_slice.ensures.set (c.as_slice-in-Ok-2.ensures.value ∙ c.remove.ensures.items ∙ ap (λ l. remove l c.in-Ok.at) same) c.in-Ok.ensures.1

pub returns-in-Err-clause-words : goal.returns-in-Err-clause-words
returns-in-Err-clause-words c =
    sym (without_absent c.args.word c.args.self.now (ap (has_word c.args.word) (sym c.as_slice.ensures.words) ∙ c.in-Err.ensures.2))
