use Rattle.std.proofs.Common.{◌≡◌, true, Some, None, IfOk, get_or, set, sym, ap, subst, ◌∙◌}
use Rattle.std.proofs.lemmas.List.{get_or_read}
use Rattle.store_model.specs.declared.event.Event.TheVariants.{Lend}
use Rattle.store_model.specs.Events.{can, after, Answers}
use Rattle.stream_core.specs.Runs.{past_at}
use Rattle.stream_core.specs.World.{core_of, IsWorld}
use Rattle.stream_core.proofs.WorldLemmas.{run_inside, lendable, world_after_lend, answers_after_lend, core_after_lend}
use Rattle.stream_core.proofs.world.World.lend.Goals as goal
use Rattle.stream_core.proofs.world.World.lend.Goals.{In-Some}

-- the run at hand is the reader's
has : (c : In-Some) → get_or c.self.inside.runs.items c.args.reader None ≡ Some c.in-Some.run'
has c =
    let w = c.self.inside in
    let runs = w.runs.items in
    let able = subst (λ s. can s (Lend c.args.reader) ≡ true) (sym c.self.view_is) c.requires in
    let inside = run_inside (past_at w.vertex_count w.known) w.queue.items w.held runs c.args.reader able in
    let read : c.index_mut.result.now ≡ get_or runs c.args.reader c.index_mut.result.now = c.index_mut.ensures.value ∙ ap (λ i. get_or runs i c.index_mut.result.now) c.from.ensures in
    sym (get_or_read runs c.args.reader c.index_mut.result.now inside read None) ∙ c.in-Some.is

pub lend-requires : goal.lend-requires
lend-requires c =
    let w = c.self.inside in
    lendable (past_at w.vertex_count w.known) w.queue.items w.held w.table w.runs.items c.args.reader c.in-Some.run' c.self.invariant.0 (has c)

pub invariant_of-self : goal.invariant_of-self
invariant_of-self c =
    let w = c.self.inside in
    let past = past_at w.vertex_count w.known in (
      subst (λ i. IsWorld past w.queue.items w.held w.table (set w.runs.items i (Some c.lend.new.self))) (sym c.from.ensures)
          (world_after_lend past w.queue.items w.held w.table w.runs.items c.args.reader c.in-Some.run' c.lend.new.self c.lend.result c.self.invariant.0 (has c.before.before) c.lend.ensures.ok c.lend.ensures.err),
      c.self.invariant.1,
      c.self.invariant.2,
    )

pub returns-in-Some-clause-answer : goal.returns-in-Some-clause-answer
returns-in-Some-clause-answer c =
    let w = c.self.inside in
    subst (λ s. IfOk c.lend.result (λ reply. Answers s (Lend c.args.reader) reply)) c.self.view_is
    (answers_after_lend (past_at w.vertex_count w.known) w.queue.items w.held w.table w.runs.items c.args.reader c.in-Some.run' c.lend.new.self c.lend.result c.self.invariant.0 (has c.before.before) c.lend.ensures.ok)

pub returns-in-Some-clause-ok : goal.returns-in-Some-clause-ok
returns-in-Some-clause-ok c =
    let w = c.self.inside in
    let past = past_at w.vertex_count w.known in
    subst (λ i. IfOk c.lend.result (λ reply. core_of past w.queue.items w.held (set w.runs.items i (Some c.lend.new.self)) ≡ after c.args.self.now (Lend c.args.reader) reply)) (sym c.from.ensures)
    (subst (λ s. IfOk c.lend.result (λ reply. core_of past w.queue.items w.held (set w.runs.items c.args.reader (Some c.lend.new.self)) ≡ after s (Lend c.args.reader) reply)) c.self.view_is
    (core_after_lend past w.queue.items w.held w.table w.runs.items c.args.reader c.in-Some.run' c.lend.new.self c.lend.result c.self.invariant.0 (has c.before.before) c.lend.ensures.ok))
