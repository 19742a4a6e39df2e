-- Each call is the events that its contract names.
use Rattle.std.proofs.Common.{◌≡◌, ◌<◌, ap, sym, subst, ◌∙◌, List, Option, Some, None, Result, Ok, Err, IfOk, IfSome}
use Rattle.past_model.specs.declared.edit.Edit.{Edit}
use Rattle.past_model.specs.declared.entry.Entry.{Entry}
use Rattle.past_model.specs.Edits.{AreEditsBelow}
use Rattle.past_model.specs.declared.limits.TheConstants.{FEEDS}
use Rattle.history.specs.Moment.{Moment, after_entry, Begins}
use Rattle.history.proofs.Moments.{is_before}
use Rattle.store.specs.Ends.{Feeding, after_put}
use Rattle.handle_model.specs.Calls.{IsSubmission, IsPublication, IsTaking}
use Rattle.handle_model.proofs.Submissions.{submissions_are}
use Rattle.handle_model.proofs.Publications.{publications_are, takings_are}
use Rattle.handle_model.proofs.Pinning.{pins_are}
use Rattle.store.specs.Receipts.{Publication, publication_after}
use Rattle.store.specs.Storing.{Storing}
use Rattle.store.specs.Ties.{SubmitsAsEvent, PublishesAsEvents, TakesAsEvent, PinsAsEvent}

pub submission_is : (s t : Feeding) (batch : List Edit) → t ≡ after_put s batch → s.feed < FEEDS → AreEditsBelow s.vertex_count batch → SubmitsAsEvent s batch t
submission_is s t batch is feed below =
    subst (λ x. IsSubmission s.vertex_count s.feed batch s.sent x.sent) (sym is) (submissions_are s.vertex_count s.feed batch s.sent feed below)

-- what is published is the batch, unless it is a rebase
pub publication_is : (s t : Storing) (m : Moment) (p : Publication) (e : Option Entry) → m ≡ s.moment → t.moment ≡ p.moment → p ≡ publication_after m e
    → IfSome p.entry (λ e. PublishesAsEvents s e t)
publication_is s t m p (Some e) is now told =
    let past = ap (λ (m : Moment). m.past) (now ∙ ap (λ (x : Publication). x.moment) told ∙ ap (λ (m : Moment). after_entry m e) is) in
    let here : PublishesAsEvents s e t = subst (IsPublication s.moment.past s.held e) (sym past) (publications_are s.moment.past s.held e) in
    subst (λ (x : Publication). IfSome x.entry (λ e. PublishesAsEvents s e t)) (sym told) here
publication_is s t m p None is now told = subst (λ (x : Publication). IfSome x.entry (λ e. PublishesAsEvents s e t)) (sym told) tt

pub taking_is : (s t : Storing) → t.moment ≡ s.moment → TakesAsEvent s t
taking_is s t same e held = subst (λ past. IsTaking s.moment.past s.held e past) (ap (λ (m : Moment). m.past) (sym same)) (takings_are s.moment.past s.held e)

pub pin_is : (seen pinned : Moment) → Begins seen pinned → PinsAsEvent seen pinned
pin_is seen pinned begins = pins_are.0 seen.past pinned.past (is_before seen pinned begins)

-- the same of what the calls answer
pub submitted_is : {E : Type 0} (result : Result (Unit {0}) E) (s t : Feeding) (batch : List Edit) → IfOk result (λ _. t ≡ after_put s batch)
    → IfOk result (λ _. s.feed < FEEDS) → IfOk result (λ _. AreEditsBelow s.vertex_count batch) → IfOk result (λ _. SubmitsAsEvent s batch t)
submitted_is (Ok done) s t batch is feed below = submission_is s t batch is feed below
submitted_is (Err e) s t batch is feed below = tt
