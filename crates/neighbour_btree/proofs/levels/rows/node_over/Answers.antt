use Rattle.std.proofs.Common.{◌*◌, sym, subst}
use Rattle.neighbour_btree.specs.Node.{IsChild}
use Rattle.neighbour_btree.proofs.NodeLists.{sound_inner}
use Rattle.neighbour_btree.proofs.levels.rows.node_over.Goals as goal

pub of-requires : goal.of-requires
of-requires g c =
    subst (IsChild (16 * g.C.Level.least)) (sym c.in_ok-node.ensures) ((sound_inner g.C.Level.least c.args.children.items c.requires.inner).child c.requires.full)
