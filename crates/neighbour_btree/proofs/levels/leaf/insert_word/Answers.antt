use Rattle.std.proofs.Common.{ℕ, List, Err, subst, arith}
use Rattle.word_sets.specs.Words.{IsPlace}
use Rattle.neighbour_btree.proofs.LeafWords.{IsLeaf-insert}
use Rattle.neighbour_btree.proofs.levels.leaf.insert_word.Goals as goal

pub returns-in_ok-insert-in-Err-clause-leaf : goal.returns-in_ok-insert-in-Err-clause-leaf
returns-in_ok-insert-in-Err-clause-leaf c =
    let P : List ℕ → Type 0 = λ l. IsPlace c.args.word l (Err c.in-Err.at) in
    let place = subst P c.as_slice.ensures.value c.in-Err.ensures in
    IsLeaf-insert c.args.word c.in-Err.at c.args.words.now.items c.insert.new.self.items c.requires.leaf (omega (arith, c.if-len-ge-MOST.false, c.len.ensures, c.args.words.now.ok)) c.requires.word place.0 c.in_ok-insert-in-Err.ensures.items place.1
