use Rattle.std.proofs.Common.{slice_get, sym, ap}
use Rattle.graph_model.proofs.Neighbours.{neighbours-empty_graph}
use Rattle.test_program_rows.proofs.edgeless.EdgelessGraphView.neighbour.Goals as goal

pub returns : goal.returns
returns c = sym (ap (λ l. slice_get l c.args._place) (neighbours-empty_graph c.args.self.now.vertices c.args._vertex))
