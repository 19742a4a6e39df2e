use Rattle.abstract_values.proofs.Joins.{join_associates}
use Rattle.abstract_values.proofs.laws.join_associates.Goals as goal

pub returns : goal.returns
returns c = join_associates
