use Rattle.std.proofs.Common.{◌≡◌, ◌++◌, ℕ, List, length}
use Rattle.past_model.specs.declared.home.Home.{Home}
use Rattle.shards.specs.Begun.{AreBegun, IsPageOf}
use Rattle.shards.specs.Lists.{AreKept, rows_of, homes_of}
use Rattle.shards.specs.Part.{Part}
use Rattle.shards.proofs.rebuilt_page.rebuilt_page.Given as goal

abbrev pub invariant-loop-place : goal.invariant-loop-place
invariant-loop-place l = record {
  kept : AreKept l.scratch.lists;
  count : length (rows_of l.scratch.lists) ≡ l.place;
  begun : (p : Part) (rows : List (List ℕ)) (homes : List Home) → IsPageOf l.groups.edits p l.first l.page → length rows ≡ l.first → AreBegun l.groups.edits p rows homes l.fn.counts → AreBegun l.groups.edits p (rows ++ rows_of l.scratch.lists) (homes ++ homes_of l.scratch.lists) l.counts;
}
