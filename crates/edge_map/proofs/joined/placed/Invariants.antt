use Rattle.std.proofs.Common.{◌≤◌, ◌-◌, length}
use Rattle.edge_map.specs.Plans.{task_of}
use Rattle.edge_map.proofs.Places.{IsPlacing}
use Rattle.edge_map.proofs.joined.placed.Given as goal

abbrev pub invariant-empty : goal.invariant-empty
invariant-empty l = length l.places.items ≤ l.count

abbrev pub decreases-empty : goal.decreases-empty
decreases-empty l = l.count - length l.places.items

abbrev pub invariant-left : goal.invariant-left
invariant-left l = IsPlacing (task_of l.plan) l.pieces.items l.places.items

abbrev pub decreases-left : goal.decreases-left
decreases-left l = length l.pieces.items
