use Rattle.std.proofs.Common.{◌≡◌}
use Rattle.shards.specs.Arrays.{rows_from, homes_from}
use Rattle.shards.specs.Lists.{AreKept, rows_of, homes_of}
use Rattle.shards.proofs.arrays.page_of_lists.Given as goal

abbrev pub invariant-loop-place : goal.invariant-loop-place
invariant-loop-place l = record {
  kept : AreKept l.page;
  rows : rows_of l.page ≡ rows_from l.starts l.targets l.first l.place;
  homes : homes_of l.page ≡ homes_from l.starts l.targets l.first l.place;
}
