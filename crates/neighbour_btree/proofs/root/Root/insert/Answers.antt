use Rattle.std.proofs.Common.{IfOk, sym, subst}
use Rattle.neighbour_btree.specs.declared.root.Root.{Root}
use Rattle.neighbour_btree.specs.Root.{words_of, WordsAdded}
use Rattle.neighbour_btree.proofs.Roots.{words_added}
use Rattle.neighbour_btree.proofs.root.Root.insert.Goals as goal

pub returns-in-One-clause-ok : goal.returns-in-One-clause-ok
returns-in-One-clause-ok c =
    let P : Root → Type 0 = λ r. IfOk c.insert.result (WordsAdded (words_of r) c.insert.new.self.words c.args.word) in
    subst P (sym c.in-One.is) (words_added 16 c.args.word c.in-One.node c.insert.new.self c.insert.result c.insert.ensures.ok)

pub returns-in-Two-clause-ok : goal.returns-in-Two-clause-ok
returns-in-Two-clause-ok c =
    let P : Root → Type 0 = λ r. IfOk c.insert-in-Two.result (WordsAdded (words_of r) c.insert-in-Two.new.self.words c.args.word) in
    subst P (sym c.in-Two.is) (words_added 256 c.args.word c.in-Two.node c.insert-in-Two.new.self c.insert-in-Two.result c.insert-in-Two.ensures.ok)

pub returns-in-Three-clause-ok : goal.returns-in-Three-clause-ok
returns-in-Three-clause-ok c =
    let P : Root → Type 0 = λ r. IfOk c.insert-in-Three.result (WordsAdded (words_of r) c.insert-in-Three.new.self.words c.args.word) in
    subst P (sym c.in-Three.is) (words_added 4096 c.args.word c.in-Three.node c.insert-in-Three.new.self c.insert-in-Three.result c.insert-in-Three.ensures.ok)

pub returns-in-Four-clause-ok : goal.returns-in-Four-clause-ok
returns-in-Four-clause-ok c =
    let P : Root → Type 0 = λ r. IfOk c.insert-in-Four.result (WordsAdded (words_of r) c.insert-in-Four.new.self.words c.args.word) in
    subst P (sym c.in-Four.is) (words_added 65536 c.args.word c.in-Four.node c.insert-in-Four.new.self c.insert-in-Four.result c.insert-in-Four.ensures.ok)

pub returns-in-Five-clause-ok : goal.returns-in-Five-clause-ok
returns-in-Five-clause-ok c =
    let P : Root → Type 0 = λ r. IfOk c.insert-in-Five.result (WordsAdded (words_of r) c.insert-in-Five.new.self.words c.args.word) in
    subst P (sym c.in-Five.is) (words_added 1048576 c.args.word c.in-Five.node c.insert-in-Five.new.self c.insert-in-Five.result c.insert-in-Five.ensures.ok)

pub returns-in-Six-clause-ok : goal.returns-in-Six-clause-ok
returns-in-Six-clause-ok c =
    let P : Root → Type 0 = λ r. IfOk c.insert-in-Six.result (WordsAdded (words_of r) c.insert-in-Six.new.self.words c.args.word) in
    subst P (sym c.in-Six.is) (words_added 16777216 c.args.word c.in-Six.node c.insert-in-Six.new.self c.insert-in-Six.result c.insert-in-Six.ensures.ok)

pub returns-in-Seven-clause-ok : goal.returns-in-Seven-clause-ok
returns-in-Seven-clause-ok c =
    let P : Root → Type 0 = λ r. IfOk c.insert-in-Seven.result (WordsAdded (words_of r) c.insert-in-Seven.new.self.words c.args.word) in
    subst P (sym c.in-Seven.is) (words_added 268435456 c.args.word c.in-Seven.node c.insert-in-Seven.new.self c.insert-in-Seven.result c.insert-in-Seven.ensures.ok)
