use Rattle.std.proofs.Common.{[], ◌∷◌, ◌++◌, take, sym, ap, subst, subst₂, ◌∙◌}
use Rattle.std.proofs.lemmas.List.{take_more}
use Rattle.store_model.specs.Core.{opening_core}
use Rattle.store_model.specs.Events.{Ran, Steps}
use Rattle.store_model.proofs.Steps.{go_on}
use Rattle.stream_core.proofs.execution.run.Goals as goal

pub loop-event-preserved : goal.loop-event-preserved
loop-event-preserved c =
    let events = c.args.events.now in
    let i = c.loop-event.event-index in
    let event = c.event-item.result in
    let start = opening_core c.args.vertex_count in
    let read = take_more events i event c.loop-event-test.true ∙ ap (λ e. take i events ++ e ∷ []) (sym c.event-item.is) in
    let step = subst (λ e. Steps c.loop-event.world e c.in_ok-reply.reply c.step.new.world) c.in_ok-share.ensures c.in_ok-reply.ensures.ok in
    subst₂ (λ l replies. Ran start l replies c.step.new.world) (sym read) (sym c.in_ok-push.ensures.items)
    (go_on start c.loop-event.world c.step.new.world (take i events) c.loop-event.replies.items event c.in_ok-reply.reply c.loop-event.invariant step)
