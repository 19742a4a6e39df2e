use Rattle.std.proofs.Common.{◌≡◌, ◌≤◌, ◌+◌, ◌-◌, ◌++◌, length, take}
use Rattle.std.specs.Prelude.{vec_len, vec_capacity}
use Rattle.neighbour_btree.proofs.levels.lists.share_all.Given as goal

abbrev pub invariant-loop-child : goal.invariant-loop-child
invariant-loop-child g l = record {
  items : l.list.items ≡ l.initial.list.items ++ take l.child-index l.children;
  room : vec_len l.list + (length l.children - l.child-index) ≤ vec_capacity l.list;
}
