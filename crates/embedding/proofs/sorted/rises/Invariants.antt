use Rattle.std.proofs.Common.{ℕ, suc, ◌<◌, get_or}
use Rattle.embedding.proofs.sorted.rises.Given as goal

abbrev pub invariant-loop-place : goal.invariant-loop-place
invariant-loop-place l = (k : ℕ) → suc k < l.place → get_or l.list k 0 < get_or l.list (suc k) 0
