use Rattle.std.proofs.Common.{◌≡◌}
use Rattle.bpf_model.specs.State.{start}
use Rattle.bpf_model.specs.Step.{Goes}
use Rattle.bpf_model.specs.Run.{after}
use Rattle.bpf_machine.specs.Seen.{state_of}
use Rattle.bpf_machine.proofs.run.run_checked.Given as goal

abbrev pub invariant-loop-steps : goal.invariant-loop-steps
invariant-loop-steps g l = after l.image (g.G.GraphView.graph l.graph) l.steps (start l.image l.fn.bytes) ≡ Goes (state_of l.machine l.bytes l.image.table)
