use Rattle.std.proofs.Common.{sym, ◌∙◌}
use Rattle.past_model.proofs.Pasts.{vertex_count-graph_of}
use Rattle.version.proofs.view.VersionGraphView.vertex_count.Goals as goal

pub returns : goal.returns
returns c = c.vertex_count.ensures.value ∙ sym (vertex_count-graph_of c.args.self.now)
