-- A store after a step that published nothing.
use Rattle.std.proofs.Common.{◌≡◌, Option, Some, None, IfSome, refl, ap, inl, inr, subst, ◌∙◌}
use Rattle.past_model.specs.declared.entry.Entry.{Entry}
use Rattle.past_model.specs.Past.{Past}
use Rattle.store.specs.Storing.{Storing, IsKept}
use Rattle.session.specs.Handles.{StoreState, IsUnpublished}

abbrev with_held : Past → Option Entry → StoreState
with_held past held = record { past = past; held = held }

by_held : (past : Past) (before after : Option Entry) → IfSome before (λ e. after ≡ Some e) → IsUnpublished (with_held past before) (with_held past after)
by_held past None None first = inl refl
by_held past None (Some e) first = inr (refl, (e, refl))
by_held past (Some e) None first = absurd (let none : None ≡ Some e = first in cc)
by_held past (Some e) (Some f) first = inl (ap (with_held past) first)

unpublished : (s t : Storing) → IsKept s t → IsUnpublished (with_held s.moment.past s.held) (with_held t.moment.past t.held)
unpublished s t kept = rw kept.after (by_held s.moment.past s.held t.held kept.first)

-- the step came after a batch was submitted, which the store does not show yet
pub unpublished_since : (s t : Storing) (old between : StoreState) → with_held s.moment.past s.held ≡ between → between ≡ old → IsKept s t → IsUnpublished old (with_held t.moment.past t.held)
unpublished_since s t old between shown same kept = subst (λ before. IsUnpublished before (with_held t.moment.past t.held)) (shown ∙ same) (unpublished s t kept)
