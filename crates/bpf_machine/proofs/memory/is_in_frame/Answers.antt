use Rattle.std.proofs.Common.{ap, ◌∙◌}
use Rattle.bpf_model.specs.State.{in_frames}
use Rattle.bpf_machine.proofs.memory.is_in_frame.Goals as goal

pub returns-clause-exact : goal.returns-clause-exact
returns-clause-exact c bytes table =
    c.is_some.ensures ∙ c.find_spot.ensures.exact ∙ ap (λ n. in_frames n c.args.address c.args.size) (c.live_frames.ensures.live bytes table)
