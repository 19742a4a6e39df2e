-- Which events of the store's core the calls of its handles are.
use Rattle.std.specs.Prelude.{◌≡◌, List, Some}
use Rattle.past_model.specs.declared.edit.Edit.{Edit}
use Rattle.past_model.specs.declared.entry.Entry.{Entry}
use Rattle.history.specs.Moment.{Moment}
use Rattle.store.specs.Ends.{Feeding}
use Rattle.handle_model.specs.Calls.{IsSubmission, IsPublication, IsRebase, IsTaking, IsPin}
use Rattle.store.specs.Storing.{Storing}

-- a submission of this batch
abbrev pub SubmitsAsEvent : Feeding → List Edit → Feeding → Type 0
SubmitsAsEvent s batch t = IsSubmission s.vertex_count s.feed batch s.sent t.sent

-- a publication of this entry: it is taken unless it is held, its ranges are edited, and it is published
abbrev pub PublishesAsEvents : Storing → Entry → Storing → Type 0
PublishesAsEvents s e t = IsPublication s.moment.past s.held e t.moment.past

-- a rebase: what was held still is
abbrev pub RebasesAsEvent : Storing → Storing → Type 0
RebasesAsEvent s t = IsRebase s.moment.past s.held t.moment.past

-- what is held in the end was taken, unless it was held before, and nothing was published
abbrev pub TakesAsEvent : Storing → Storing → Type 0
TakesAsEvent s t = (e : Entry) → t.held ≡ Some e → IsTaking s.moment.past s.held e t.moment.past

-- a pin by a reader that saw the first of two moments last
abbrev pub PinsAsEvent : Moment → Moment → Type 0
PinsAsEvent seen pinned = IsPin seen.past pinned.past
