use Rattle.neighbour_btree.proofs.Undone.{taken_out, still_there}
use Rattle.neighbour_btree.proofs.laws.removal_undoes_insertion.Goals as goal

pub returns-in_ok-removed-clause-undone : goal.returns-in_ok-removed-clause-undone
returns-in_ok-removed-clause-undone c =
    taken_out c.args.word c.args.tree.now c.insert.new.self c.remove.new.self c.in_ok-inserted.inserted c.len.ensures.set c.requires c.in_ok-inserted.ensures.changed c.if-inserted.true c.in_ok-inserted.ensures.ok c.in_ok-removed.ensures.ok

pub returns-else-inserted-clause-undone : goal.returns-else-inserted-clause-undone
returns-else-inserted-clause-undone c =
    still_there c.args.word c.args.tree.now c.insert.new.self c.in_ok-inserted.inserted c.len.ensures.set c.in_ok-inserted.ensures.changed c.if-inserted.false c.in_ok-inserted.ensures.ok
