use Rattle.std.proofs.Common.{length, sym, ap}
use Rattle.graph_model.proofs.Neighbours.{neighbours-empty_graph}
use Rattle.test_program_rows.proofs.edgeless.EdgelessGraphView.degree.Goals as goal

pub returns : goal.returns
returns c = sym (ap length (neighbours-empty_graph c.args.self.now.vertices c.args._vertex))
