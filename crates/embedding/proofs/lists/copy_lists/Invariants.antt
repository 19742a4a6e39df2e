use Rattle.past_model.specs.Past.{graph_of}
use Rattle.embedding.proofs.ListLemmas.{AreListed}
use Rattle.embedding.proofs.lists.copy_lists.Given as goal

abbrev pub invariant-vertices : goal.invariant-vertices
invariant-vertices l = AreListed (graph_of l.version) l.frontier l.starts l.fn.targets l.targets l.place l.at
