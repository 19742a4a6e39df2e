use Rattle.std.proofs.Common.{◌≡◌, ℕ, ◌<◌, length, get_or, Bor}
use Rattle.shards.specs.declared.edited_shard.EditedShard.{EditedShard}
use Rattle.batch_apply.specs.Dealt.{Piece, IsMadeOf}
use Rattle.batch_apply.proofs.edited.put_in.Given as goal

abbrev pub invariant-loop-place : goal.invariant-loop-place
invariant-loop-place l = record {
  count : length l.made.items ≡ l.place;
  each : (j : ℕ) (p : Piece) (d : Bor EditedShard) → j < length l.made.items → IsMadeOf l.table (get_or l.pieces j p) (get_or l.made.items j d).now;
}
