use Rattle.std.proofs.Common.{◌≤◌, length, rules}
use Rattle.bpf_machine.proofs.CallFacts.{answered_held}
use Rattle.bpf_machine.proofs.helpers.registers_behind.Goals as goal

pub returns : goal.returns
returns c = (let few : length c.args.registers.now ≤ 11 = search rules in answered_held c.args.registers.now c.args.value few)
