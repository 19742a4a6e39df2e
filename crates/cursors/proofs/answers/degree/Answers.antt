use Rattle.std.proofs.Common.{length, sym, ap}
use Rattle.graph_model.proofs.Neighbours.{neighbours-outside}
use Rattle.cursors.proofs.answers.degree.Goals as goal

pub returns-in-None-clause-value : goal.returns-in-None-clause-value
returns-in-None-clause-value c = λ g table. sym (ap length (neighbours-outside g c.args.vertex (c.in-None.ensures.list g table)))
