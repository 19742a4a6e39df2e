use Rattle.std.proofs.Common.{◌≡◌, [], replicate}
use Rattle.past_model.specs.declared.home.Home.TheVariants.{Block}
use Rattle.shards.specs.Lists.{AreKept, rows_of, homes_of}
use Rattle.shards.proofs.lists.Lists.empty.Given as goal

abbrev pub invariant-loop : goal.invariant-loop
invariant-loop l = record {
  kept : AreKept l.lists;
  rows : rows_of l.lists ≡ replicate l.counter [];
  homes : homes_of l.lists ≡ replicate l.counter Block;
}
