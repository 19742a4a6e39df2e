use Rattle.std.proofs.Common.{Some, sym, ap, subst, ◌∙◌}
use Rattle.store.specs.Pending.{Committing, entry_of}
use Rattle.store.specs.Storing.{Storing, IsPublished, IsIdle, IsKept}
use Rattle.store.proofs.Ties.{publication_is, taking_is}
use Rattle.store.proofs.Stepping.{none_of, storing_of, pending_published, pending_kept, next_shown, next_pending, next_kept, none_waited}
use Rattle.store.proofs.publisher.Publisher.step.Goals as goal

-- ---- the batch that is pending

pub returns-in-Ok-clause-published : goal.returns-in-Ok-clause-published
returns-in-Ok-clause-published g c =
    let p = c.self.inside in
    subst (λ (s : Storing). IsPublished s c.in-Ok.receipt (storing_of c.publish.new.self.moment p.held c.take.new.self p.receiver.empties p.receiver.queue)) c.self.view_is
    (pending_published p.committer c.publish.new.self p.held p.pending c.take.new.self c.in-Some.pending p.receiver.empties p.receiver.queue c.in-Ok.receipt
    (sym c.take.ensures.value ∙ c.in-Some.is) c.take.ensures.after c.self.invariant.2 c.in-Ok.ensures.batch c.in-Ok.ensures.gone_on)

pub returns-in-Ok-clause-events : goal.returns-in-Ok-clause-events
returns-in-Ok-clause-events g c =
    let p = c.self.inside in
    publication_is c.args.self.now (storing_of c.publish.new.self.moment p.held c.take.new.self p.receiver.empties p.receiver.queue) p.committer.moment c.in-Ok.receipt
    (entry_of c.in-Some.pending.change) (ap (λ (s : Storing). s.moment) c.self.view_is) (ap (λ (x : Committing). x.moment) c.in-Ok.ensures.gone_on.1) c.in-Ok.ensures.gone_on.0

pub returns-in-Err-clause-taking : goal.returns-in-Err-clause-taking
returns-in-Err-clause-taking g c =
    let p = c.self.inside in
    taking_is c.args.self.now (storing_of c.publish.new.self.moment p.held (Some c.in-Err.pending) p.receiver.empties p.receiver.queue)
    (c.in-Err.ensures.gone_on.0 ∙ ap (λ (s : Storing). s.moment) c.self.view_is)

pub invariant_of-self-in-Err : goal.invariant_of-self-in-Err
invariant_of-self-in-Err g c =
    let p = c.self.inside in
    pending_kept p.committer c.publish.new.self p.held p.pending c.in-Some.pending c.in-Err.pending p.receiver
    (sym c.take.ensures.value ∙ c.in-Some.is) c.self.invariant c.in-Err.ensures.gone_on

-- ---- the batch that comes next

pub returns-in_default-next_entry-clause-idle : goal.returns-in_default-next_entry-clause-idle
returns-in_default-next_entry-clause-idle g c =
    let p = c.self.inside in let r = c.next_entry.new.receiver in
    subst (λ (s : Storing). IsIdle s (storing_of p.committer.moment c.next_entry.new.held c.take.new.self r.empties r.queue)) c.self.view_is
    (none_waited p.committer.moment p.held c.next_entry.new.held p.pending c.take.new.self p.receiver r (sym c.take.ensures.value ∙ none_of c.take.result c.in_default.not-Some) c.take.ensures.after
    c.next_entry.ensures.none (rw (none_of c.next_entry.result c.in_default-next_entry.not-Some) at c.next_entry.ensures.next) (c.self.invariant.0, c.self.invariant.1))

pub invariant_of-self-in-Ok-publish : goal.invariant_of-self-in-Ok-publish
invariant_of-self-in-Ok-publish g c =
    let p = c.self.inside in
    next_shown p.committer c.publish-in-Ok-begin.new.self p.held c.next_entry.new.held p.pending c.take.new.self p.receiver c.next_entry.new.receiver
    (record { entry = c.in-Some-next_entry.entry; counts = c.in-Ok-begin.counts }) c.in-Ok-publish.receipt
    (sym c.take.ensures.value ∙ none_of c.take.result c.in_default.not-Some) c.take.ensures.after c.next_entry.ensures.none c.in-Some-next_entry.ensures.next (c.self.invariant.0, c.self.invariant.1)
    c.in-Ok-publish.ensures.gone_on

pub invariant_of-self-in-Err-publish : goal.invariant_of-self-in-Err-publish
invariant_of-self-in-Err-publish g c =
    let p = c.self.inside in
    next_pending p.committer c.publish-in-Ok-begin.new.self p.held c.next_entry.new.held p.pending p.receiver c.next_entry.new.receiver
    (record { entry = c.in-Some-next_entry.entry; counts = c.in-Ok-begin.counts }) c.in-Err-publish.pending
    (sym c.take.ensures.value ∙ none_of c.take.result c.in_default.not-Some) c.next_entry.ensures.none c.in-Some-next_entry.ensures.next (c.self.invariant.0, c.self.invariant.1)
    c.in-Err-publish.ensures.gone_on

pub returns-in-Ok-publish-clause-events : goal.returns-in-Ok-publish-clause-events
returns-in-Ok-publish-clause-events g c =
    let p = c.self.inside in let r = c.next_entry.new.receiver in
    publication_is c.args.self.now (storing_of c.publish-in-Ok-begin.new.self.moment c.next_entry.new.held c.take.new.self r.empties r.queue) p.committer.moment c.in-Ok-publish.receipt
    (Some c.in-Some-next_entry.entry) (ap (λ (s : Storing). s.moment) c.self.view_is) (ap (λ (x : Committing). x.moment) c.in-Ok-publish.ensures.gone_on.1) c.in-Ok-publish.ensures.gone_on.0

pub returns-in-Err-publish-clause-taking : goal.returns-in-Err-publish-clause-taking
returns-in-Err-publish-clause-taking g c =
    let r = c.next_entry.new.receiver in
    taking_is c.args.self.now (storing_of c.publish-in-Ok-begin.new.self.moment c.next_entry.new.held (Some c.in-Err-publish.pending) r.empties r.queue)
    (c.in-Err-publish.ensures.gone_on.0 ∙ ap (λ (s : Storing). s.moment) c.self.view_is)

pub returns-in-Err-begin-clause-taking : goal.returns-in-Err-begin-clause-taking
returns-in-Err-begin-clause-taking g c =
    let p = c.self.inside in let r = c.next_entry.new.receiver in
    taking_is c.args.self.now (storing_of p.committer.moment (Some c.in-Some-next_entry.entry) c.take.new.self r.empties r.queue) (ap (λ (s : Storing). s.moment) c.self.view_is)

pub returns-in-Err-publish-clause-kept : goal.returns-in-Err-publish-clause-kept
returns-in-Err-publish-clause-kept g c =
    let p = c.self.inside in let r = c.next_entry.new.receiver in
    subst (λ (s : Storing). IsKept s (storing_of c.publish-in-Ok-begin.new.self.moment c.next_entry.new.held (Some c.in-Err-publish.pending) r.empties r.queue)) c.self.view_is
    (next_kept p.committer c.publish-in-Ok-begin.new.self p.held c.next_entry.new.held p.pending p.receiver r (record { entry = c.in-Some-next_entry.entry; counts = c.in-Ok-begin.counts })
    c.in-Err-publish.pending (sym c.take.ensures.value ∙ none_of c.take.result c.in_default.not-Some) c.next_entry.ensures.none c.in-Some-next_entry.ensures.next
    c.in-Err-publish.ensures.gone_on)
