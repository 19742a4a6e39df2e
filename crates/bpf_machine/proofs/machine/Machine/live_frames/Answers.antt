use Rattle.std.proofs.Common.{arith}
use Rattle.bpf_machine.proofs.StackFacts.{callers_count}
use Rattle.bpf_machine.proofs.machine.Machine.live_frames.Goals as goal

pub returns-clause-live : goal.returns-clause-live
returns-clause-live c bytes table =
    let same = callers_count c.args.self.now.callers.kept c.args.self.now.callers.count in
    omega (arith, same)
