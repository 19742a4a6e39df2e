use Rattle.std.proofs.Common.{arith}
use Rattle.bpf_machine.proofs.StackFacts.{room_for_one}
use Rattle.bpf_machine.proofs.stack.Stack.make_room.Goals as goal

pub returns-then-frame-eq0-clause-room : goal.returns-then-frame-eq0-clause-room
returns-then-frame-eq0-clause-room c = (let some = room_for_one c.args.self.now in omega (arith, some, c.if-frame-eq0.true))
