use Rattle.std.proofs.Common.{◌≡◌, length, take, map, All}
use Rattle.shards.specs.Groups.{edits_of}
use Rattle.batch_apply.specs.Pieces.{piece_in, IsWithin}
use Rattle.batch_apply.proofs.pieces.Pieces.of.Given as goal

abbrev pub invariant-loop-place : goal.invariant-loop-place
invariant-loop-place l = record {
  within : All (IsWithin (length l.all.items)) l.runs.items;
  so_far : map (piece_in l.all.items) l.runs.items ≡ map (λ range. (range, edits_of l.groups range)) (take l.place l.ranges.items);
}
