use Rattle.std.proofs.Common.{◌≡◌, ◌<◌, length}
use Rattle.shard_table.proofs.table.Table.dealt.Given as goal

abbrev pub invariant-loop : goal.invariant-loop
invariant-loop l = record {
  made : length l.lists.items ≡ l.counter;
}

abbrev pub invariant-loop-shard : goal.invariant-loop-shard
invariant-loop-shard l = record {
  turn : l.next < l.hands;
  all : length l.lists.items ≡ l.hands;
  can_next : (goal.iterator-loop-shard).can_next l.shard-iterator;
  is_finite : (goal.iterator-loop-shard).is_finite l.shard-iterator;
}

abbrev pub invariant-loop-block : goal.invariant-loop-block
invariant-loop-block l = record {
  turn : l.next < l.hands;
  all : length l.lists.items ≡ l.hands;
  can_next : (goal.iterator-loop-block).can_next l.block-iterator;
  is_finite : (goal.iterator-loop-block).is_finite l.block-iterator;
}
