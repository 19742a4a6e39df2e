use Rattle.std.proofs.Common.{◌≡◌, ◌+◌, sym, ap, subst, ◌∙◌}
use Rattle.std.proofs.lemmas.List.{length_push}
use Rattle.past_model.specs.Past.{Past}
use Rattle.history.specs.declared.published.Published.TheVariants.{Rebase as OneRebase}
use Rattle.history.specs.Moment.{Beginning, count_of, and_then}
use Rattle.store_model.specs.declared.event.Event.TheVariants.{Rebase}
use Rattle.store_model.specs.declared.reply.Reply.TheVariants.{Done}
use Rattle.store_model.specs.Events.{after}
use Rattle.stream_core.specs.Runs.{past_at}
use Rattle.stream_core.specs.World.{core_of, IsWorld}
use Rattle.stream_core.proofs.WorldLemmas.{world_rebased, past_at-rebase}
use Rattle.stream_core.proofs.world.World.rebase.Goals as goal

pub invariant_of-self : goal.invariant_of-self
invariant_of-self c =
    let w = c.self.inside in
    let known : c.in_ok-known.known ≡ and_then w.known OneRebase = c.in_ok-known.ensures.known in (
      subst (λ (k : Beginning). IsWorld (past_at w.vertex_count k) w.queue.items w.held w.table w.runs.items) (sym known)
          (subst (λ (p : Past). IsWorld p w.queue.items w.held w.table w.runs.items) (sym (past_at-rebase w.vertex_count w.known))
          (world_rebased (past_at w.vertex_count w.known) w.queue.items w.held w.table w.runs.items c.self.invariant.0)),
      ap (λ (k : Beginning). k.book) known ∙ c.self.invariant.1,
      ap (λ n. n + 1) c.self.invariant.2 ∙ sym (length_push w.known.published OneRebase) ∙ ap count_of (sym known),
    )

pub returns-clause-ok : goal.returns-clause-ok
returns-clause-ok c =
    let w = c.self.inside in
    let known : c.in_ok-known.known ≡ and_then w.known OneRebase = c.in_ok-known.ensures.known in
    ap (λ (k : Beginning). core_of (past_at w.vertex_count k) w.queue.items w.held w.runs.items) known
    ∙ ap (λ (p : Past). core_of p w.queue.items w.held w.runs.items) (past_at-rebase w.vertex_count w.known)
    ∙ ap (λ s. after s Rebase Done) c.self.view_is
