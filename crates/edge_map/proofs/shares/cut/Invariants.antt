use Rattle.std.proofs.Common.{◌≤◌, length}
use Rattle.edge_map.proofs.shares.cut.Given as goal

abbrev pub invariant-places : goal.invariant-places
invariant-places l = l.at ≤ length l.job.request.frontier.now

abbrev pub decreases-places : goal.decreases-places
decreases-places l = l.at
