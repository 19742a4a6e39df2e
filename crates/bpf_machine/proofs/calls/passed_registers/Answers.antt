use Rattle.bpf_machine.proofs.CallFacts.{passed_held}
use Rattle.bpf_machine.proofs.calls.passed_registers.Goals as goal

pub returns : goal.returns
returns c = passed_held c.args.registers.now c.args.top
