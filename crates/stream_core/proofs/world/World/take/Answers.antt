use Rattle.std.proofs.Common.{◌≡◌, ◌<◌, Some, List, [], length, sym, ap, subst, ◌∙◌}
use Rattle.std.specs.List.{AllByRecursion}
use Rattle.past_model.specs.declared.entry.Entry.{Entry}
use Rattle.shards.specs.Part.{Part}
use Rattle.store_model.specs.Core.{range_of}
use Rattle.stream_core.specs.Work.{Work}
use Rattle.stream_core.specs.Runs.{past_at}
use Rattle.stream_core.specs.World.{IsWorld}
use Rattle.stream_core.proofs.WorldLemmas.{first_inside, world_taken, queue_split}
use Rattle.stream_core.proofs.world.World.take.Goals as goal

pub begin-requires : goal.begin-requires
begin-requires c =
    let w = c.self.inside in
    let past = past_at w.vertex_count w.known in
    let queue = w.queue.items in
    let e = c.in-Some.entry.now in
    let item = c.in-Some.ensures.item in
    let inside = first_inside past queue w.held w.table w.runs.items e c.self.invariant.0 item.3.0 item.1 in
    subst (λ (parts : List Part). AllByRecursion (λ x. range_of x < length parts) c.in_ok-share.field-0.batch) (sym c.in_ok-table.ensures)
    (subst (λ (x : Entry). AllByRecursion (λ y. range_of y < length w.table) x.batch) (sym c.in_ok-share.ensures) inside)

pub invariant_of-self : goal.invariant_of-self
invariant_of-self c =
    let w = c.self.inside in
    let past = past_at w.vertex_count w.known in
    let queue = w.queue.items in
    let rest = c.pop_front.new.self.items in
    let e = c.in-Some.entry.now in
    let item = c.in-Some.ensures.item in
    let split = queue_split queue rest e item.3.0 item.1 c.pop_front.ensures.rest in
    let begun : c.in_ok-held.held ≡ record { entry = e; done = []; parts = w.table } =
    c.in_ok-held.ensures
    ∙ ap (λ (x : Entry). record { entry = x; done = []; parts = c.in_ok-table.table }) c.in_ok-share.ensures
    ∙ ap (λ (parts : List Part). record { entry = e; done = []; parts = parts }) c.in_ok-table.ensures in (
      subst (λ (work : Work). IsWorld past rest (Some work) w.table w.runs.items) (sym begun)
          (world_taken past e rest w.held w.table w.runs.items (subst (λ queue. IsWorld past queue w.held w.table w.runs.items) split c.self.invariant.0)),
      c.self.invariant.1,
      c.self.invariant.2,
    )
