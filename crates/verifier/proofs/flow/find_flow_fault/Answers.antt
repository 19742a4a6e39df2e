use Rattle.std.proofs.Common.{◌≡◌, ◌/◌, ap, sym, length, arith}
use Rattle.bpf_image.specs.Program.{units}
use Rattle.verifier.specs.Verdict.{flow_fault}
use Rattle.verifier.proofs.Faults.{first_fault_none, first_fault_at, NoFault-more}
use Rattle.verifier.proofs.flow.find_flow_fault.Goals as goal

pub returns-in-Some : goal.returns-in-Some
returns-in-Some c =
    let same : units c.args.image.now ≡ length c.code.result.now / 8 = ap (λ xs. length xs / 8) (sym c.code.ensures.exact) in
    sym (first_fault_at (flow_fault c.args.image.now) c.loop-pc.pc (units c.args.image.now) c.in-Some.cause c.loop-pc.invariant (sym c.in-Some.ensures) (omega (arith, same, c.loop-pc-test.true)))

pub loop-pc-preserved : goal.loop-pc-preserved
loop-pc-preserved c =
    NoFault-more (flow_fault c.args.image.now) c.loop-pc.pc c.loop-pc.invariant (sym c.in_default.ensures)

pub returns : goal.returns
returns c =
    let same : units c.args.image.now ≡ length c.code.result.now / 8 = ap (λ xs. length xs / 8) (sym c.code.ensures.exact) in
    let all : c.loop-pc.pc ≡ units c.args.image.now = omega (arith, c.loop-pc-test.false, c.loop-pc.auto.pc-end, same) in
    sym (rw (← all) (first_fault_none (flow_fault c.args.image.now) c.loop-pc.pc c.loop-pc.invariant))
