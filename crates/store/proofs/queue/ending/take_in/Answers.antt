use Rattle.std.proofs.Common.{◌≡◌, ◌∙◌, ap}
use Rattle.store.specs.declared.queue.queue_view.QueueView.{QueueView}
use Rattle.store.specs.Ends.{Feeding}
use Rattle.store.proofs.FeedSeats.{merges}
use Rattle.store.proofs.queue.ending.take_in.Goals as goal

pub absorb-requires-clause-rule : goal.absorb-requires-clause-rule
absorb-requires-clause-rule c =
    let theirs = c.theirs.invariant.2 in
    let number : c.theirs.inside.feed ≡ c.args.feed.feed = ap (λ (s : Feeding). s.feed) (c.theirs.view_is ∙ c.into_sender.ensures) in
    merges _ _ _ _ c.requires.takes (ap (λ v. v.feeds) theirs) (ap (λ (v : QueueView). v.feed) theirs ∙ number ∙ c.requires.next)
