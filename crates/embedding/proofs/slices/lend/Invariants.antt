use Rattle.std.proofs.Common.{◌≡◌, ◌+◌, ◌-◌, ◌<◌, ◌≤◌, length, take, drop}
use Rattle.std.specs.List.{All}
use Rattle.graph_model.specs.Graph.{neighbours}
use Rattle.past_model.specs.Past.{graph_of}
use Rattle.embedding.specs.declared.slices.Slice.{Slice}
use Rattle.embedding.specs.Slices.{counted, Follow}
use Rattle.embedding.proofs.slices.lend.Given as goal

abbrev pub invariant-slices : goal.invariant-slices
invariant-slices l = record {
  fit : l.lent ≤ length l.slices;
  filled : All (λ (s : Slice). 0 < s.count) (take l.lent l.slices);
  rest : drop l.lent l.slices ≡ drop l.lent l.initial.slices;
  some : counted (take l.lent l.slices) + length l.cursor ≡ length (drop l.place (neighbours (graph_of l.version) l.vertex));
  begins : Follow (drop l.place (neighbours (graph_of l.version) l.vertex)) (take l.lent l.slices) l.cursor;
}

abbrev pub decreases-slices : goal.decreases-slices
decreases-slices l = length l.slices - l.lent
