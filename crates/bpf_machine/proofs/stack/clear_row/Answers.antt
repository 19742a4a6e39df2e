use Rattle.std.proofs.Common.{◌≡◌, ◌+◌, ◌<◌, length, ap, ◌∙◌, arith}
use Rattle.bpf_model.specs.State.{without_values}
use Rattle.bpf_model.specs.declared.limits.TheConstants.{FRAME_BYTES}
use Rattle.bpf_machine.specs.Seen.{values_of}
use Rattle.bpf_machine.proofs.StackFacts.{cleared_more, cleared_none}
use Rattle.bpf_machine.proofs.stack.clear_row.Goals as goal

pub loop-k-init : goal.loop-k-init
loop-k-init c = cleared_none (values_of c.args.cells.now) c.args.first

pub loop-k-preserved : goal.loop-k-preserved
loop-k-preserved c =
    let inside : c.args.first + c.loop-k.k < length c.loop-k.cells = omega (arith, c.requires, c.loop-k.auto.cells, c.loop-k-test.true) in
    cleared_more c.loop-k.cells (values_of c.args.cells.now) c.args.first c.loop-k.k inside c.loop-k.invariant

pub returns : goal.returns
returns c =
    let all : c.loop-k.k ≡ FRAME_BYTES = omega (arith, c.loop-k-test.false, c.loop-k.auto.k-end) in
    c.loop-k.invariant ∙ ap (without_values (values_of c.args.cells.now) c.args.first) all
