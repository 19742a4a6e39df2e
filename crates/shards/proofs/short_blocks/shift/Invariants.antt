use Rattle.std.proofs.Common.{◌≡◌, ◌+◌, ◌<◌, ◌≤◌, ℕ, length, get_or}
use Rattle.shards.proofs.short_blocks.shift.Given as goal

abbrev pub invariant-loop-place : goal.invariant-loop-place
invariant-loop-place l = record {
  count : length l.ends.items ≡ length l.initial.ends.items;
  before : (k : ℕ) → k < l.from → get_or l.ends.items k 0 ≡ get_or l.initial.ends.items k 0;
  done : (k : ℕ) → l.from ≤ k → k < l.place → get_or l.ends.items k 0 + l.gone ≡ get_or l.initial.ends.items k 0 + l.come;
  rest : (k : ℕ) → l.place ≤ k → get_or l.ends.items k 0 ≡ get_or l.initial.ends.items k 0;
}
