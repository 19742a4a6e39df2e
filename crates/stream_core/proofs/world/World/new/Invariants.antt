use Rattle.std.proofs.Common.{◌≡◌, None, replicate}
use Rattle.stream_core.proofs.world.World.new.Given as goal

abbrev pub invariant-loop : goal.invariant-loop
invariant-loop l = l.runs.items ≡ replicate l.counter None
