use Rattle.std.proofs.Common.{◌≡◌, ◌+◌, drop}
use Rattle.bpf_model.specs.State.{Partial, with_values, record_base}
use Rattle.bpf_machine.specs.Seen.{memory_of}
use Rattle.bpf_machine.proofs.stores.set_record.Given as goal

abbrev pub invariant-loop-k : goal.invariant-loop-k
invariant-loop-k l =
    (cells : Partial)
    → with_values (memory_of l.bytes cells) (record_base + (l.place + l.k)) (drop l.k l.value)
    ≡ with_values (memory_of l.fn.bytes cells) (record_base + l.place) l.value
