-- Calls one after another are events one after another.
use Rattle.std.proofs.Common.{◌≡◌, ◌<◌, ◌⊎◌, inl, inr, Option, Some, None, List, [], ◌∷◌, ◌++◌, length, drop, refl, sym, ap, subst, ◌∙◌}
use Rattle.past_model.specs.declared.entry.Entry.{Entry}
use Rattle.store_model.specs.declared.event.Event.{Event}
use Rattle.store_model.specs.declared.event.Event.TheVariants.{Submit, Take, Rebase}
use Rattle.store_model.specs.declared.reply.Reply.{Reply}
use Rattle.store_model.specs.declared.reply.Reply.TheVariants.{Done}
use Rattle.store_model.specs.Core.{Core}
use Rattle.store_model.specs.Events.{Ran}
use Rattle.handle_model.specs.Sights.{PublisherSees}
use Rattle.handle_model.specs.Calls.{IsNext, waiting_after, publication, all_done}
use Rattle.handle_model.specs.Histories.{Standing, IsSubmitted, IsFirst, IsPublished, IsTaken, IsRebased, AllSee, HistoriesAreRuns}
use Rattle.handle_model.proofs.Submissions.{able}
use Rattle.handle_model.proofs.Publications.{publications_are, rebases_are, ranges_are, takings_are}

-- events and then others
ran_on : (s t u : Core) (events : List Event) (replies : List Reply) (events' : List Event) (replies' : List Reply)
    → Ran s events replies t → Ran t events' replies' u → Ran s (events ++ events') (replies ++ replies') u
ran_on s t u [] [] events' replies' h more = subst (λ x. Ran x events' replies' u) h more
ran_on s t u (event ∷ events) (reply ∷ replies) events' replies' (mid, first, rest) more =
    (mid, first, ran_on mid t u events replies events' replies' rest more)
ran_on s t u [] (reply ∷ replies) events' replies' h more = absurd h
ran_on s t u (event ∷ events) [] events' replies' h more = absurd h

-- some events lead a store to one that is seen so
abbrev LeadsTo : Core → Standing → Type 0
LeadsTo s y = (t : Core) × (events : List Event) × (replies : List Reply) × Ran s events replies t × AllSee t y

submitted : (s : Core) (x y : Standing) → AllSee s x → IsSubmitted x y → LeadsTo s y
submitted s x y sees call =
    let e : Entry = call.entry in
    let t : Core = record s { queue = s.queue ++ e ∷ [] } in
    let can_be = able s x.past.vertex_count e.feed e.batch (ap (λ p. p.vertex_count) sees.publisher.published) call.feed
    (subst (λ l. length l < 64) (sym sees.queue) call.room) call.below in (
      t,
      Submit e.feed e.batch ∷ [],
      Done ∷ [],
      (t, (can_be, refl, refl), refl),
      subst (AllSee t) (sym call.now)
          (record {
            publisher = record { published = sees.publisher.published; holds = sees.publisher.holds };
            queue = ap (λ l. l ++ e ∷ []) sees.queue;
          }),
    )

next_is : (s : Core) (held : Option Entry) (waiting : List Entry) (e : Entry) → s.queue ≡ waiting → IsFirst held waiting e → IsNext s held e
next_is s None waiting e queue (rest, first) = (rest, queue ∙ first)
next_is s (Some h) waiting e queue is = is

published : (s : Core) (x y : Standing) → AllSee s x → IsPublished x y → LeadsTo s y
published s x y sees call =
    let (ranges, are) = ranges_are call.entry.batch in
    let (t, ran, seen, queue) = publications_are x.past x.held call.entry s ranges sees.publisher
    (next_is s x.held x.waiting call.entry sees.queue call.next) are in (
      t,
      publication x.held ranges,
      all_done (publication x.held ranges),
      ran,
      subst (AllSee t) (sym call.now) (record { publisher = seen; queue = queue ∙ ap (λ l. waiting_after l x.held) sees.queue }),
    )

taken : (s : Core) (x y : Standing) → AllSee s x → IsTaken x y → LeadsTo s y
taken s x y sees call =
    let seen : PublisherSees s x.past None = subst (PublisherSees s x.past) call.free sees.publisher in
    let (t, ran, held, queue) = takings_are x.past None call.entry s seen (next_is s None x.waiting call.entry sees.queue call.next) in (
      t,
      Take ∷ [],
      Done ∷ [],
      ran,
      subst (AllSee t) (sym call.now) (record { publisher = held; queue = queue ∙ ap (drop 1) sees.queue }),
    )

rebased_too : (s : Core) (x y : Standing) → AllSee s x → IsRebased x y → LeadsTo s y
rebased_too s x y sees call =
    let (t, step, seen, queue) = rebases_are x.past x.held s sees.publisher in (
      t,
      Rebase ∷ [],
      Done ∷ [],
      (t, step, refl),
      subst (AllSee t) (sym call.now) (record { publisher = seen; queue = queue ∙ sees.queue }),
    )

called : (s : Core) (x y : Standing) → AllSee s x → IsSubmitted x y ⊎ (IsPublished x y ⊎ (IsTaken x y ⊎ IsRebased x y)) → LeadsTo s y
called s x y sees (inl call) = submitted s x y sees call
called s x y sees (inr (inl call)) = published s x y sees call
called s x y sees (inr (inr (inl call))) = taken s x y sees call
called s x y sees (inr (inr (inr call))) = rebased_too s x y sees call

pub histories_are_runs : HistoriesAreRuns
histories_are_runs s x [] sees calls = (s, [], [], refl, sees)
histories_are_runs s x (y ∷ ys) sees (call, calls) =
    let (t, events, replies, ran, seen) = called s x y sees call in
    let (u, events', replies', more, last) = histories_are_runs t y ys seen calls in
    (u, events ++ events', replies ++ replies', ran_on s t u events replies events' replies' ran more, last)
