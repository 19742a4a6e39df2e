use Rattle.std.proofs.Common.{◌≡◌, sym, ap, ◌∙◌, subst}
use Rattle.crossbeam_queue.specs.Passes.{view, ruled_capacity}
use Rattle.past_model.specs.Edits.{AreEditsBelow}
use Rattle.store_model.specs.declared.limits.TheConstants.{QUEUE_PLACES}
use Rattle.store.specs.declared.queue.queue_view.QueueView.{QueueView}
use Rattle.store.specs.Ends.{Feeding}
use Rattle.store.proofs.Putting.{pushes, waits}
use Rattle.store.proofs.queue.sender.Sender.put.Goals as goal

pub push_as-requires-clause-rule : goal.push_as-requires-clause-rule
push_as-requires-clause-rule g c =
    let hand = c.self.invariant.2 in
    let places : ruled_capacity c.deref.result.now ≡ QUEUE_PLACES = ap ruled_capacity c.deref.ensures ∙ c.self.invariant.1 in
    let count = ap (λ (s : Feeding). s.vertex_count) c.self.view_is in
    let below : AreEditsBelow (view c.self.inside.pass).vertex_count c.args.batch =
    subst (λ n. AreEditsBelow n c.args.batch) (sym (ap (λ (v : QueueView). v.vertex_count) hand ∙ count)) c.requires.below in
    (pushes _ _ _ _ places (ap (λ v. v.feeds) hand) (sym (ap (λ v. v.feed) hand)) below, waits _ _ (ap (λ v. v.feeds) hand))
