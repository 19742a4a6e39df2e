use Rattle.std.proofs.Common.{◌++◌}
use Rattle.neighbour_btree.proofs.Roots.{set_with}
use Rattle.neighbour_btree.proofs.root.grow.Goals as goal

pub of_two-requires-clause-set : goal.of_two-requires-clause-set
of_two-requires-clause-set g c =
    let grows = rw c.in-Some.is at (rw c.in-New.is at c.in_ok-with.ensures) in
    set_with c.args.word (g.C.Level.node c.args.node.now).words ((g.C.Level.node c.in-New.first).words ++ (g.C.Level.node c.in-Some.second).words) c.requires.set c.requires.word grows.1.0
