use Rattle.verifier.specs.Verdict.{flow_fault}
use Rattle.verifier.proofs.Faults.{NoFault}
use Rattle.verifier.proofs.flow.find_flow_fault.Given as goal

abbrev pub invariant-loop-pc : goal.invariant-loop-pc
invariant-loop-pc l = NoFault (flow_fault l.image) l.pc
