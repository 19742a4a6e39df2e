use Rattle.std.proofs.Common.{sym, arith}
use Rattle.past_model.proofs.Beginnings.{prefix_whole}
use Rattle.history.proofs.laws.as_many_are_the_same.Goals as goal

pub returns : goal.returns
returns c =
    let count = c.requires.count in
    sym (prefix_whole c.args.a.now.published c.args.b.now.published (c.compare.ensures.left (omega (arith, count))) (omega (arith, count)))
