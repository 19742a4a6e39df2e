use Rattle.std.proofs.Common.{◌-◌, length}
use Rattle.edge_map.specs.Pieces.{piece_count}
use Rattle.edge_map.specs.Plans.{task_of}
use Rattle.edge_fold.specs.Kept.{IsFor}
use Rattle.edge_map.proofs.Works.{IsWorking}
use Rattle.edge_map.proofs.work.work.Given as goal

abbrev pub invariant-claims : goal.invariant-claims
invariant-claims g l = IsWorking (task_of l.plan) l.fn.me.parts l.claimant l.pieces.items × IsFor l.plan.program.now l.memory

abbrev pub decreases-claims : goal.decreases-claims
decreases-claims g l = piece_count l.plan.frontier.now - length l.pieces.items
