use Rattle.std.proofs.Common.{◌<◌, ◌≤◌, ◌-◌, length}
use Rattle.neighbour_btree.specs.Lists.{first_at}
use Rattle.neighbour_btree.proofs.levels.search.child_for.Given as goal

abbrev pub invariant-loop-low : goal.invariant-loop-low
invariant-loop-low g l = record {
  apart : l.low < l.high;
  within : l.high ≤ length l.children;
  from : 0 < l.low → first_at l.children l.low ≤ l.word;
  to : l.high < length l.children → l.word < first_at l.children l.high;
}

abbrev pub decreases-loop-low : goal.decreases-loop-low
decreases-loop-low g l = l.high - l.low
