use Rattle.std.proofs.Common.{◌≡◌, ◌≤◌, sym, ap, subst, ◌∙◌, rules}
use Rattle.std.specs.Arc.{arc_value}
use Rattle.past_model.specs.declared.limits.TheConstants.{SERVED_EPOCHS}
use Rattle.past_model.specs.Past.{epoch_of}
use Rattle.store.proofs.recorded.Recorded.epoch.Goals as goal

pub returns-clause-small : goal.returns-clause-small
returns-clause-small c =
    let version : c.deref.result.now ≡ arc_value c.self.inside.version = search rules in
    subst (λ n. n ≤ SERVED_EPOCHS) (sym (c.epoch.ensures.value ∙ ap epoch_of version)) c.self.invariant.2.epochs
