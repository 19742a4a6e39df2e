use Rattle.std.proofs.Common.{◌≡◌, ◌≤◌, ◌*◌}
use Rattle.past_model.specs.Past.{graph_of}
use Rattle.past_model.specs.declared.limits.TheConstants.{MOST_VERTICES}
use Rattle.embedding.specs.Lists.{list_begins}
use Rattle.embedding.proofs.lists.count_of.Given as goal

abbrev pub invariant-vertices : goal.invariant-vertices
invariant-vertices l = record {
  counted : l.count ≡ list_begins (graph_of l.version) l.frontier l.place;
  small : l.count ≤ l.place * MOST_VERTICES;
}
