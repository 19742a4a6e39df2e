use Rattle.std.proofs.Common.{◌≡◌, ℕ, List, [], ◌∷◌, ◌++◌, ap, ◌∙◌, subst}
use Rattle.crossbeam_queue.specs.Passes.{view}
use Rattle.past_model.specs.declared.entry.Entry.{Entry}
use Rattle.past_model.specs.declared.limits.TheConstants.{FEEDS}
use Rattle.store.specs.declared.queue.queue_view.QueueView.{QueueView}
use Rattle.store.specs.QueueViews.{taker}
use Rattle.store.specs.QueueRule.{Left}
use Rattle.store.specs.Ends.{Taking}
use Rattle.store.proofs.Taking.{pops, left, was_empty, of_made}
use Rattle.store.proofs.queue.receiver.Receiver.pop.Goals as goal

pub pop_as-requires-clause-rule : goal.pop_as-requires-clause-rule
pop_as-requires-clause-rule g c =
    let hand = c.self.invariant.1 in
    (pops _ _ (ap (λ v. v.takes) hand), left _ _ (ap (λ v. v.takes) hand))

pub returns-in-None-clause-empty : goal.returns-in-None-clause-empty
returns-in-None-clause-empty g c =
    let hand = c.self.invariant.1 in
    was_empty _ _ (ap (λ v. v.made) hand) (ap (λ (t : Taking). t.taken) c.self.view_is) c.in-None.ensures.rule.1

pub returns-in-Some-clause-feed : goal.returns-in-Some-clause-feed
returns-in-Some-clause-feed g c =
    let n : ℕ = c.self.inside.vertex_count in
    let taken : List Entry = (view c.self.inside.pass).taken in
    let e : Entry = c.in-Some.message.entry in
    let took = c.in-Some.ensures.rule in
    let hand : view c.pop_as.new.pass ≡ taker n (taken ++ e ∷ []) FEEDS [] =
    took.0 ∙ ap (λ (v : QueueView). taker v.vertex_count (v.taken ++ e ∷ []) v.made v.ended) c.self.invariant.1 in
    of_made n taken took.2.0 [] e (subst (λ (v : QueueView). Left v took.2.0) hand took.2.1)
