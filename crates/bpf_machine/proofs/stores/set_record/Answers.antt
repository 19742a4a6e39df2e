use Rattle.std.proofs.Common.{◌∙◌}
use Rattle.bpf_model.specs.State.{record_base}
use Rattle.bpf_machine.specs.Seen.{memory_of}
use Rattle.bpf_machine.proofs.StoreFacts.{stored_more}
use Rattle.bpf_machine.proofs.stores.set_record.Goals as goal

pub loop-k-preserved : goal.loop-k-preserved
loop-k-preserved c cells =
    stored_more (memory_of c.loop-k.bytes cells) (memory_of c.set_record_byte.new.bytes cells) record_base c.args.place c.loop-k.k c.args.value.now
    c.loop-k-test.true (c.set_record_byte.ensures cells)
    ∙ c.loop-k.invariant cells
