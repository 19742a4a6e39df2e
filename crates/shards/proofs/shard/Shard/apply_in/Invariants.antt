use Rattle.std.proofs.Common.{◌≡◌, take}
use Rattle.std.specs.List.{AllByRecursion}
use Rattle.shards.specs.Begun.{AreBegun}
use Rattle.shards.specs.Pages.{rows_in, homes_in, sizes_in, part_in}
use Rattle.shards.proofs.PageLemmas.{IsKept}
use Rattle.shards.proofs.shard.Shard.apply_in.Given as goal

abbrev pub invariant-loop-number : goal.invariant-loop-number
invariant-loop-number l = record {
  sizes : sizes_in l.pages.items ≡ take l.number (sizes_in l.self-inside.pages.items);
  kept : AllByRecursion IsKept l.pages.items;
  begun : AreBegun l.edits (part_in l.self-inside.range l.self-inside.pages.items) (rows_in l.pages.items) (homes_in l.pages.items) l.counts;
}
