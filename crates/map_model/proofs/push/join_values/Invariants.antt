use Rattle.map_model.proofs.Joined.{JoinedTo}
use Rattle.map_model.proofs.push.join_values.Given as goal

abbrev pub invariant-places : goal.invariant-places
invariant-places l = JoinedTo l.reduction l.initial.values l.others l.at l.values l.count
