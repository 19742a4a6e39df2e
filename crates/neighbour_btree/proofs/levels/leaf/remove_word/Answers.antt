use Rattle.std.proofs.Common.{ℕ, List, Ok, subst}
use Rattle.word_sets.specs.Words.{IsPlace}
use Rattle.neighbour_btree.proofs.LeafWords.{IsLeaf-remove}
use Rattle.neighbour_btree.proofs.levels.leaf.remove_word.Goals as goal

pub returns-in-Ok-clause-leaf : goal.returns-in-Ok-clause-leaf
returns-in-Ok-clause-leaf c =
    let P : List ℕ → Type 0 = λ l. IsPlace c.args.word l (Ok c.in-Ok.at) in
    let place = subst P c.as_slice.ensures.value c.in-Ok.ensures in
    IsLeaf-remove c.args.word c.in-Ok.at c.args.words.now.items c.remove.new.self.items c.requires place.0 c.remove.ensures.items place.1
