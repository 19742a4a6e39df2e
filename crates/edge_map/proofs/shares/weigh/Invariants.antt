use Rattle.std.proofs.Common.{◌-◌, length}
use Rattle.edge_map.proofs.shares.weigh.Given as goal

abbrev pub decreases-places : goal.decreases-places
decreases-places l = length l.job.request.frontier.now - l.at
