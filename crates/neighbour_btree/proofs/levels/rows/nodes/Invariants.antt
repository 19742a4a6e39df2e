use Rattle.std.proofs.Common.{◌≡◌, ◌+◌, ◌*◌, ◌≤◌, ◌++◌, length, reverse, All}
use Rattle.neighbour_btree.specs.Node.{words_under, IsChild}
use Rattle.neighbour_btree.proofs.levels.rows.nodes.Given as goal

abbrev pub invariant-loop-children : goal.invariant-loop-children
invariant-loop-children g l = record {
  words : words_under l.children.items ++ words_under (reverse l.row.items) ≡ words_under l.initial.children.items;
  below : All (IsChild g.C.Level.least) l.children.items;
  children : All (IsChild (16 * g.C.Level.least)) l.row.items;
  enough : 32 ≤ length l.children.items;
  counted : 32 * length l.row.items + length l.children.items ≡ length l.initial.children.items;
}

abbrev pub decreases-loop-children : goal.decreases-loop-children
decreases-loop-children g l = length l.children.items
