use Rattle.map_model.proofs.Pushes.{IsCounted}
use Rattle.map_model.proofs.push.count_changed.Given as goal

abbrev pub invariant-places : goal.invariant-places
invariant-places l = IsCounted l.before l.after l.at l.count
