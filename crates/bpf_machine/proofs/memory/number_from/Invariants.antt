use Rattle.std.proofs.Common.{◌≡◌, ◌+◌, ◌-◌, ◌^◌, ◌<◌, Some}
use Rattle.bpf_model.specs.State.{number_at}
use Rattle.bpf_machine.specs.Seen.{state_of}
use Rattle.bpf_machine.proofs.memory.number_from.Given as goal

abbrev pub invariant-loop-place : goal.invariant-loop-place
invariant-loop-place l = record {
  joined : number_at (state_of l.machine l.bytes l.table).memory (l.address + l.place) (l.size - l.place) ≡ Some l.value;
  fits : l.value < 256 ^ (l.size - l.place);
}
