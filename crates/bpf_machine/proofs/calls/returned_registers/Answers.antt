use Rattle.bpf_machine.proofs.CallFacts.{returned_held}
use Rattle.bpf_machine.proofs.calls.returned_registers.Goals as goal

pub returns : goal.returns
returns c = returned_held c.args.caller.now c.args.value c.args.top
