use Rattle.std.proofs.Common.{◌≡◌, ◌+◌, ◌-◌, Some, None, ap, sym, ◌∙◌, arith}
use Rattle.bpf_machine.proofs.MemoryFacts.{number_more, number_limit, number_fits, number_unset}
use Rattle.bpf_model.specs.State.{with_table}
use Rattle.bpf_machine.specs.Cells.{cells_of}
use Rattle.bpf_machine.specs.Seen.{values_of, memory_of}
use Rattle.bpf_machine.proofs.memory.number_from.Goals as goal

pub returns-in-None : goal.returns-in-None
returns-in-None c =
    let memory = with_table c.args.table.now (memory_of c.args.bytes.now (values_of (cells_of c.args.machine.now.stack))) in
    let unset : memory (c.args.address + (c.loop-place.place - 1)) ≡ None = sym c.byte_at.ensures ∙ c.in-None.is in
    sym (number_unset memory c.args.size c.args.address (c.loop-place.place - 1) (omega arith) unset)

pub overflow_mul-value : goal.overflow_mul-value
overflow_mul-value c =
    omega (arith, number_fits c.loop-place.place c.args.size c.from.result c.loop-place.value (omega arith) (omega arith) (omega arith) (omega arith) c.loop-place.invariant.fits)

pub overflow_add-value : goal.overflow_add-value
overflow_add-value c =
    omega (arith, number_fits c.loop-place.place c.args.size c.from.result c.loop-place.value (omega arith) (omega arith) (omega arith) (omega arith) c.loop-place.invariant.fits)

pub loop-place-preserved : goal.loop-place-preserved
loop-place-preserved c = record {
  joined =
      number_more (with_table c.args.table.now (memory_of c.args.bytes.now (values_of (cells_of c.args.machine.now.stack)))) c.args.address c.loop-place.place c.args.size c.from.result c.loop-place.value
      (omega arith) (omega arith) (sym c.byte_at.ensures ∙ c.in-Some.is ∙ ap Some (sym c.from.ensures)) c.loop-place.invariant.joined;
  fits = number_limit c.loop-place.place c.args.size c.from.result c.loop-place.value (omega arith) (omega arith) (omega arith) c.loop-place.invariant.fits;
}
