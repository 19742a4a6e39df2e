use Rattle.std.proofs.Common.{length, sym, subst, ◌∙◌, arith}
use Rattle.word_sets.specs.Words.{IsSet}
use Rattle.word_sets.specs.declared.places.TheConstants.{WORD_LIMIT}
use Rattle.word_sets.proofs.Within.{IsWithin-length}
use Rattle.neighbour_btree.specs.Node.{words_under}
use Rattle.neighbour_btree.specs.Lists.{IsRow}
use Rattle.neighbour_btree.proofs.RowLists.{row_inner}
use Rattle.neighbour_btree.proofs.root.Root.of.Goals as goal

pub new-requires : goal.new-requires
new-requires c =
    row_inner 16 (length c.args.words.now) c.args.words.now c.in_ok-row.row.items c.in_ok-row.ensures c.requires.set c.requires.many (omega (arith, c.if-len-le-MOST.true, c.len.ensures, c.in_ok-row.row.ok))

pub new-requires-2 : goal.new-requires-2
new-requires-2 c =
    let one = c.in_ok-row.ensures in
    let two = c.in_ok-row-2.ensures in
    let second = c.in_ok-row-2.row.items in
    let three : IsRow 4096 (length second) (words_under second) c.in_ok-row-3.row.items = subst (IsRow 4096 (length second) (words_under second)) (sym c.in_ok-row-3.ensures) c.in_ok-nodes.ensures in
    let four = c.in_ok-row-4.ensures in
    let fourth = c.in_ok-row-4.row.items in
    let five : IsRow 1048576 (length fourth) (words_under fourth) c.in_ok-row-5.row.items = subst (IsRow 1048576 (length fourth) (words_under fourth)) (sym c.in_ok-row-5.ensures) c.in_ok-nodes-2.ensures in
    let words = IsWithin-length 0 WORD_LIMIT c.args.words.now c.requires.set in
    let set : IsSet (words_under fourth) = subst IsSet (sym (four.words ∙ three.words ∙ two.words ∙ one.words)) c.requires.set in
    row_inner 1048576 (length fourth) (words_under fourth) c.in_ok-row-5.row.items five set (omega (arith, c.if-len-le-MOST-4.false, c.len-4.ensures, c.in_ok-row-4.row.ok)) (omega (arith, one.few, two.few, three.few, four.few, five.few, words))
