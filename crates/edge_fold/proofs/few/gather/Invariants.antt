use Rattle.std.proofs.Common.{◌≤◌}
use Rattle.bpf_blocks.specs.declared.columns.TheConstants.{LANES}
use Rattle.edge_fold.proofs.few.gather.Given as goal

abbrev pub invariant-vertices : goal.invariant-vertices
invariant-vertices l = l.count ≤ LANES
