use Rattle.abstract_values.proofs.Joins.{join_commutes}
use Rattle.abstract_values.proofs.laws.join_commutes.Goals as goal

pub returns : goal.returns
returns c = join_commutes
