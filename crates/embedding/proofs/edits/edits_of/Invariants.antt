use Rattle.std.proofs.Common.{◌≡◌, map}
use Rattle.graph_model.specs.Graph.{numbers_below}
use Rattle.embedding.specs.Spelled.{edit_at}
use Rattle.embedding.proofs.edits.edits_of.Given as goal

abbrev pub invariant-edits : goal.invariant-edits
invariant-edits l = l.edits.items ≡ map (edit_at l.arrays.sources.now l.arrays.targets.now l.arrays.removes.now) (numbers_below l.at)
