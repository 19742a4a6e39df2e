use Rattle.std.proofs.Common.{◌<◌, ◌≤◌, ◌+◌, ◌-◌, ℕ, length, slice_index}
use Rattle.edge_map.proofs.frontier.ascends.Given as goal

-- the vertices so far ascend, up to the one before the place
abbrev pub invariant-places : goal.invariant-places
invariant-places l = (1 ≤ l.place) × ((k : ℕ) → k + 1 < l.place → slice_index l.frontier k < slice_index l.frontier (k + 1))

abbrev pub decreases-places : goal.decreases-places
decreases-places l = length l.frontier - l.place
