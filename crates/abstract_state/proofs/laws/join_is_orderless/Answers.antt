use Rattle.abstract_state.proofs.JoinOrder.{join_is_orderless}
use Rattle.abstract_state.proofs.laws.join_is_orderless.Goals as goal

pub returns : goal.returns
returns c = join_is_orderless
