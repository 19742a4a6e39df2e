use Rattle.std.proofs.Common.{rules}
use Rattle.embedding.proofs.SortedArrays.{tested_count, tested_sorted}
use Rattle.embedding.proofs.sorted.store_from.Goals as goal

pub store_of_sorted-requires-clause-count : goal.store_of_sorted-requires-clause-count
store_of_sorted-requires-clause-count c = tested_count c.args.vertex_count c.args.starts.now c.args.targets.now c.fault_of-fault.result c.fault_of-fault.ensures (search rules)

pub store_of_sorted-requires-clause-sorted : goal.store_of_sorted-requires-clause-sorted
store_of_sorted-requires-clause-sorted c = tested_sorted c.args.vertex_count c.args.starts.now c.args.targets.now c.fault_of-fault.result c.fault_of-fault.ensures (search rules)
