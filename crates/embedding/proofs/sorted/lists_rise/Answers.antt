use Rattle.std.proofs.Common.{◌+◌, arith}
use Rattle.version.proofs.SortedLemmas.{starts_within}
use Rattle.embedding.proofs.sorted.lists_rise.Goals as goal

pub list_at-requires-clause-within : goal.list_at-requires-clause-within
list_at-requires-clause-within c =
    starts_within c.args.vertex_count c.args.starts.now c.args.targets.now (c.loop-vertex.vertex + 1) c.requires.places (let test = c.loop-vertex-test.true in let end = c.loop-vertex.auto.vertex-end in omega arith)
