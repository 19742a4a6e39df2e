use Rattle.std.proofs.Common.{◌≡◌, Some, List, set, sym, ap, subst, ◌∙◌}
use Rattle.shards.specs.Part.{Part}
use Rattle.store_model.specs.declared.event.Event.TheVariants.{Pin}
use Rattle.store_model.specs.declared.reply.Reply.TheVariants.{Done}
use Rattle.store_model.specs.Events.{after}
use Rattle.history.specs.Moment.{Beginning}
use Rattle.stream_core.specs.Runs.{past_at}
use Rattle.stream_core.specs.World.{core_of, IsWorld}
use Rattle.stream_core.proofs.WorldLemmas.{new_run, world_pinned, core_pinned}
use Rattle.stream_core.proofs.world.World.pin.Goals as goal
use Rattle.stream_core.proofs.world.World.pin.Goals.{Joined-index_mut}

-- the runs with the new one in its place
runs_are : (c : Joined-index_mut) → set c.self.inside.runs.items c.from.result (Some (new_run c.again.result c.args.vertex c.in_ok-table.table))
    ≡ set c.self.inside.runs.items c.args.reader (Some (new_run c.self.inside.known c.args.vertex c.self.inside.table))
runs_are c =
    let runs = c.self.inside.runs.items in
    ap (λ reader. set runs reader (Some (new_run c.again.result c.args.vertex c.in_ok-table.table))) c.from.ensures
    ∙ ap (λ (k : Beginning). set runs c.args.reader (Some (new_run k c.args.vertex c.in_ok-table.table))) c.again.ensures
    ∙ ap (λ (parts : List Part). set runs c.args.reader (Some (new_run c.self.inside.known c.args.vertex parts))) c.in_ok-table.ensures

pub invariant_of-self : goal.invariant_of-self
invariant_of-self c =
    let w = c.self.inside in
    let past = past_at w.vertex_count w.known in (
      subst (λ runs. IsWorld past w.queue.items w.held w.table runs) (sym (runs_are c)) (world_pinned w.vertex_count w.known w.queue.items w.held w.table w.runs.items c.args.reader c.args.vertex c.self.invariant.0),
      c.self.invariant.1,
      c.self.invariant.2,
    )

pub returns-clause-ok : goal.returns-clause-ok
returns-clause-ok c =
    let w = c.self.inside in
    ap (λ runs. core_of (past_at w.vertex_count w.known) w.queue.items w.held runs) (runs_are c)
    ∙ core_pinned w.vertex_count w.known w.queue.items w.held w.table w.runs.items c.args.reader c.args.vertex
    ∙ ap (λ s. after s (Pin c.args.reader c.args.vertex) Done) c.self.view_is
