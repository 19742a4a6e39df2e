use Rattle.std.proofs.Common.{◌*◌, ◌≤◌}
use Rattle.past_model.specs.declared.limits.TheConstants.{MOST_VERTICES}
use Rattle.edge_map.specs.Plans.{task_of}
use Rattle.edge_map.proofs.Joins.{IsBegun}
use Rattle.edge_map.proofs.joined.joined.Given as goal

abbrev pub invariant-places : goal.invariant-places
invariant-places l = record { begun : IsBegun (task_of l.plan) l.number l.out; few : l.out.edges ≤ l.number * (64 * MOST_VERTICES) }
