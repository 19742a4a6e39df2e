use Rattle.history.proofs.Moments.{beginnings_are_before}
use Rattle.history.proofs.laws.beginnings_are_before.Goals as goal

pub returns : goal.returns
returns c = beginnings_are_before
