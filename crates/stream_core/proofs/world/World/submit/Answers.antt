use Rattle.std.proofs.Common.{◌≡◌, true, sym, subst}
use Rattle.store_model.specs.declared.event.Event.TheVariants.{Submit}
use Rattle.store_model.specs.Events.{can}
use Rattle.stream_core.specs.Runs.{past_at}
use Rattle.stream_core.specs.World.{IsWorld}
use Rattle.stream_core.proofs.WorldLemmas.{world_submitted}
use Rattle.stream_core.proofs.world.World.submit.Goals as goal

pub invariant_of-self-2 : goal.invariant_of-self-2
invariant_of-self-2 c =
    let w = c.self.inside in
    let past = past_at w.vertex_count w.known in (
      subst (λ queue. IsWorld past queue w.held w.table w.runs.items) (sym c.in_ok-push_back.ensures.items)
          (world_submitted past w.queue.items w.held w.table w.runs.items c.args.feed c.args.batch c.self.invariant.0 (subst (λ s. can s (Submit c.args.feed c.args.batch) ≡ true) (sym c.self.view_is) c.requires)),
      c.self.invariant.1,
      c.self.invariant.2,
    )
