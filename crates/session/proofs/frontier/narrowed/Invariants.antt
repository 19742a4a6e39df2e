use Rattle.std.proofs.Common.{◌≡◌, take}
use Rattle.session.proofs.frontier.narrowed.Given as goal

-- the vertices so far
abbrev pub invariant-loop-v : goal.invariant-loop-v
invariant-loop-v l = l.narrow.items ≡ take l.v-index l.frontier
