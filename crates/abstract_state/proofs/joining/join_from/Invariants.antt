use Rattle.std.proofs.Common.{◌≡◌, ◌≤◌, ◌-◌, length}
use Rattle.abstract_state.specs.Joining.{joined_from}
use Rattle.abstract_state.proofs.joining.join_from.Given as goal

abbrev pub invariant-addresses : goal.invariant-addresses
invariant-addresses l = (l.from ≤ l.at) × (joined_from l.at l.values l.others ≡ joined_from l.from l.values l.others)

abbrev pub decreases-addresses : goal.decreases-addresses
decreases-addresses l = length l.values - l.at
