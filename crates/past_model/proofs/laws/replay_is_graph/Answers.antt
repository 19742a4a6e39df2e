use Rattle.past_model.proofs.Pasts.{IsGraph-graph_of}
use Rattle.past_model.proofs.laws.replay_is_graph.Goals as goal

pub returns : goal.returns
returns c = IsGraph-graph_of
