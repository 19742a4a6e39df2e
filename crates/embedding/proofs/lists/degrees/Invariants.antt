use Rattle.past_model.specs.Past.{graph_of}
use Rattle.embedding.proofs.ListLemmas.{AreCounted}
use Rattle.embedding.proofs.lists.degrees.Given as goal

abbrev pub invariant-vertices : goal.invariant-vertices
invariant-vertices l = AreCounted (graph_of l.version) l.frontier l.counts l.place
