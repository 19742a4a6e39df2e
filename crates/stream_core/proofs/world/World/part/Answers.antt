use Rattle.std.proofs.Common.{◌≡◌, true, sym, subst}
use Rattle.store_model.specs.declared.event.Event.TheVariants.{Part}
use Rattle.store_model.specs.Events.{can}
use Rattle.stream_core.specs.Runs.{past_at}
use Rattle.stream_core.specs.World.{core_of, IsWorld}
use Rattle.stream_core.proofs.WorldLemmas.{held_editable, world_after_part}
use Rattle.stream_core.proofs.world.World.part.Goals as goal

pub apply-requires : goal.apply-requires
apply-requires c =
    let w = c.self.inside in
    let past = past_at w.vertex_count w.known in
    let able = subst (λ s. can s (Part c.args.range) ≡ true) (sym c.self.view_is) c.requires in
    held_editable past w.queue.items c.in-Some.held w.table w.runs.items c.args.range
    (subst (λ held. IsWorld past w.queue.items held w.table w.runs.items) c.in-Some.is c.self.invariant.0)
    (subst (λ held. can (core_of past w.queue.items held w.runs.items) (Part c.args.range) ≡ true) c.in-Some.is able)

pub invariant_of-self : goal.invariant_of-self
invariant_of-self c =
    let w = c.self.inside in
    let past = past_at w.vertex_count w.known in (
      world_after_part past w.queue.items c.in-Some.held c.apply.new.self w.table w.runs.items c.args.range c.apply.result
          (subst (λ held. IsWorld past w.queue.items held w.table w.runs.items) c.in-Some.is c.self.invariant.0) c.apply.ensures.ok c.apply.ensures.err,
      c.self.invariant.1,
      c.self.invariant.2,
    )
