use Rattle.std.proofs.Common.{◌≡◌, ◌∙◌}
use Rattle.verifier.proofs.states.arrive_beside.Goals as goal

pub arrive_by_side-requires : goal.arrive_by_side-requires
arrive_by_side-requires c =
    let same : c.in_ok-copy.field-0 ≡ c.args.state.now = c.in_ok-copy.ensures ∙ c.join_side.ensures.unchanged in
    rw (same, c.join_side.ensures.same_length) c.requires
