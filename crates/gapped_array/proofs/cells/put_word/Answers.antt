use Rattle.std.proofs.Common.{◌+◌, ◌-◌, arith}
use Rattle.gapped_array.proofs.Pieces.{word_put_slice}
use Rattle.gapped_array.proofs.cells.put_word.Goals as goal

pub returns : goal.returns
returns c =
    word_put_slice c.args.from c.args.count c.args.at c.args.word (c.args.from + c.args.count + 1 - (c.args.from + c.args.at)) c.args.cells.now.len c.deref_mut.result.now c.args.cells.now.items c.rotate_right.new.self c.deref_mut.ensures.value c.requires.place (omega (arith, c.requires.room, c.args.cells.now.ok)) (omega arith) (omega (arith, c.args.cells.now.ok)) c.rotate_right.ensures.after
