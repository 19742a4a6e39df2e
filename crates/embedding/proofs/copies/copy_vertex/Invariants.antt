use Rattle.std.proofs.Common.{◌≡◌, ◌≤◌, length, take, drop}
use Rattle.graph_model.specs.Graph.{neighbours}
use Rattle.past_model.specs.Past.{graph_of}
use Rattle.embedding.proofs.copies.copy_vertex.Given as goal

abbrev pub invariant-slices : goal.invariant-slices
invariant-slices l = record {
  rest : drop l.place (neighbours (graph_of l.version) l.vertex) ≡ l.cursor;
  within : l.place ≤ length (neighbours (graph_of l.version) l.vertex);
  long : length l.targets ≡ length (neighbours (graph_of l.version) l.vertex);
  copied : take l.place l.targets ≡ take l.place (neighbours (graph_of l.version) l.vertex);
}

abbrev pub decreases-slices : goal.decreases-slices
decreases-slices l = length l.cursor
