use Rattle.std.proofs.Common.{◌≡◌, ◌+◌, drop}
use Rattle.bpf_model.specs.State.{with_values}
use Rattle.bpf_machine.specs.Seen.{values_of}
use Rattle.bpf_machine.proofs.stack.set_row.Given as goal

abbrev pub invariant-loop-k : goal.invariant-loop-k
invariant-loop-k l = with_values (values_of l.cells) (l.place + l.k) (drop l.k l.value) ≡ with_values (values_of l.fn.cells) l.place l.value
