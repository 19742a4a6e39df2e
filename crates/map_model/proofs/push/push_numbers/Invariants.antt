use Rattle.map_model.proofs.Pushes.{IsPushed}
use Rattle.map_model.proofs.push.push_numbers.Given as goal

abbrev pub invariant-targets : goal.invariant-targets
invariant-targets l = IsPushed l.reduction l.targets l.numbers l.fn.values l.at l.values
