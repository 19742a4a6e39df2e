use Rattle.std.proofs.Common.{◌≡◌}
use Rattle.bpf_model.specs.State.{without_values}
use Rattle.bpf_machine.specs.Seen.{values_of}
use Rattle.bpf_machine.proofs.stack.clear_row.Given as goal

abbrev pub invariant-loop-k : goal.invariant-loop-k
invariant-loop-k l = values_of l.cells ≡ without_values (values_of l.fn.cells) l.first l.k
