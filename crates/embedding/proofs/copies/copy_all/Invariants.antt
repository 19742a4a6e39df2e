use Rattle.past_model.specs.Past.{graph_of}
use Rattle.embedding.proofs.CopyLemmas.{AreCopied}
use Rattle.embedding.proofs.copies.copy_all.Given as goal

abbrev pub invariant-vertices : goal.invariant-vertices
invariant-vertices l = AreCopied (graph_of l.version) l.starts l.targets l.vertex l.at
