use Rattle.std.proofs.Common.{◌≡◌, ap, sym, subst, rules}
use Rattle.history.specs.Moment.{Moment, Begins}
use Rattle.history.proofs.Moments.{begins_itself}
use Rattle.store.specs.Storing.{Storing}
use Rattle.session.proofs.handles.Handles.open.Goals as goal

-- a new store's reader has seen what its publisher made
pub invariant_of-result : goal.invariant_of-result
invariant_of-result g c =
    let ends = c.in_ok-new.field-0 in
    let same : ends.publisher.moment ≡ ends.reader = ap (λ (s : Storing). s.moment) c.in_ok-new.ensures.opened.published in
    record {
      feeds_are = search rules;
      seen = subst (λ (m : Moment). Begins m ends.reader) (sym same) (begins_itself ends.reader);
      count = search rules;
      few = search rules;
      number_is = search rules;
      epoch_is = search rules;
    }
