use Rattle.std.proofs.Common.{◌∙◌, arith}
use Rattle.bpf_machine.proofs.StackFacts.{row_more}
use Rattle.bpf_machine.proofs.stack.set_row.Goals as goal

pub loop-k-preserved : goal.loop-k-preserved
loop-k-preserved c =
    row_more c.loop-k.cells c.args.place c.loop-k.k c.args.value.now c.loop-k-test.true (omega (arith, c.requires, c.loop-k.auto.cells, c.loop-k-test.true)) ∙ c.loop-k.invariant
