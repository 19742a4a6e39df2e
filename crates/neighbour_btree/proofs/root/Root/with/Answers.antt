use Rattle.std.proofs.Common.{subst, arith}
use Rattle.word_sets.specs.Words.{IsSet}
use Rattle.neighbour_btree.specs.declared.root.Root.{Root}
use Rattle.neighbour_btree.specs.Root.{words_of}
use Rattle.neighbour_btree.proofs.Roots.{no_eighth}
use Rattle.neighbour_btree.proofs.root.Root.with.Goals as goal

pub unreachable-requires : goal.unreachable-requires
unreachable-requires c =
    let P : Root → Type 0 = λ r. IsSet (words_of r) in
    let set = subst P c.in-Seven.is c.requires.set in
    let raises = rw c.in-Above-7.is at c.in_ok-grow-in-Seven.ensures in
    no_eighth c.args.word c.in-Seven.node.words c.in-Above-7.field-0.words set c.requires.word raises.1 (omega (arith, raises.3))
