use Rattle.std.proofs.Common.{◌≡◌, IfOk, IfErr, sym, ap, subst, ◌∙◌, refl, arith}
use Rattle.past_model.specs.Past.{Past, number_of, epoch_of}
use Rattle.past_model.specs.Epochs.{IsBefore}
use Rattle.history.specs.Moment.{Moment, Begins}
use Rattle.history.proofs.Moments.{begins_onwards, is_before, same_count}
use Rattle.session.specs.Handles.{StoreState}
use Rattle.session.specs.declared.error.CommandError.TheVariants as errors
use Rattle.session.proofs.handles.Handles.pin.Goals.{then-epoch-self+then-number-self, else-epoch-self}
use Rattle.session.proofs.handles.Handles.pin.Goals as goal

pub invariant_of-self-2 : goal.invariant_of-self-2
invariant_of-self-2 c =
    let was = c.self.invariant in
    let last : Moment = c.self.inside.ends.publisher.moment in
    record {
      feeds_are = was.feeds_are;
      seen = subst (Begins last) (sym c.in-Ok.ensures.seen) (begins_onwards last c.self.inside.ends.reader c.in-Ok.pin was.seen c.in-Ok.ensures.begins);
      count = was.count;
      few = was.few;
      number_is = was.number_is;
      epoch_is = was.epoch_is;
    }

-- a hold on a version of as many epochs and batches is one on the last
pub returns : goal.returns
returns c =
    let first : Moment = c.self.inside.ends.publisher.moment in
    let last : Past = first.past in
    let pinned : Past = c.in-Ok.pin.past in
    let before : IsBefore last pinned =
    is_before first c.in-Ok.pin (begins_onwards first c.self.inside.ends.reader c.in-Ok.pin c.self.invariant.seen c.in-Ok.ensures.begins) in
    record {
      pinned = elim c.if-epoch-self.branch [
        | then-epoch-self+then-number-self w ↦ (
            let epochs : epoch_of last ≡ epoch_of pinned = omega (arith, w.if-epoch-self.true, c.epoch.ensures.value, ap epoch_of c.version-version.ensures, c.self.invariant.epoch_is) in
            let numbers : number_of last ≡ number_of pinned = omega (arith, w.if-number-self.true, w.number.ensures.value, ap number_of c.version-version.ensures, c.self.invariant.number_is) in
            subst (λ r. IfOk r (λ pin. pin.past ≡ c.args.self.now.past)) (sym w.result-is)
            (sym (same_count last pinned before epochs numbers) ∙ ap (λ (s : StoreState). s.past) c.self.view_is))
        | else-epoch-self w ↦ subst (λ r. IfOk r (λ pin. pin.past ≡ c.args.self.now.past)) (sym w.result-is) tt
      ];
      same = c.self.view_is;
      error = elim c.if-epoch-self.branch [
        | then-epoch-self+then-number-self w ↦ subst (λ r. IfErr r (λ e. e ≡ errors.Store)) (sym w.result-is) tt
        | else-epoch-self w ↦ subst (λ r. IfErr r (λ e. e ≡ errors.Store)) (sym w.result-is) refl
      ];
    }
