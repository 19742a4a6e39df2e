use Rattle.std.proofs.Common.{ℕ, ◌<◌, get_or}
use Rattle.shards.proofs.nearby.place_nearby.Given as goal

abbrev pub invariant-loop-place : goal.invariant-loop-place
invariant-loop-place l = (k d : ℕ) → k < l.place → get_or l.words k d < l.word
