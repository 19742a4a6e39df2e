use Rattle.std.proofs.Common.{◌≡◌, ◌+◌, ◌*◌, ◌≤◌, ◌++◌, length, All}
use Rattle.neighbour_btree.specs.Node.{words_under, IsChild}
use Rattle.neighbour_btree.proofs.levels.rows.leaves.Given as goal

abbrev pub invariant-loop-rest : goal.invariant-loop-rest
invariant-loop-rest l = record {
  words : words_under l.row.items ++ l.rest ≡ l.words;
  children : All (IsChild 16) l.row.items;
  enough : 16 ≤ length l.rest;
  counted : 48 * length l.row.items + length l.rest ≡ length l.words;
}

abbrev pub decreases-loop-rest : goal.decreases-loop-rest
decreases-loop-rest l = length l.rest
