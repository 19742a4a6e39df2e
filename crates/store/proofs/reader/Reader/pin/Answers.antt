use Rattle.std.proofs.Common.{sym, subst, IfOk}
use Rattle.history.specs.Moment.{Begins}
use Rattle.store.specs.Ties.{PinsAsEvent}
use Rattle.store.proofs.Ties.{pin_is}
use Rattle.store.proofs.reader.Reader.pin.Goals.{in-Ok, in-Err}
use Rattle.store.proofs.reader.Reader.pin.Goals as goal

pub returns-clause-event : goal.returns-clause-event
returns-clause-event c = elim c.match-pin.branch [
  | in-Ok w ↦ (let begins = subst (λ r. IfOk r (λ v. Begins c.self.inside.side v)) w.in-Ok.is c.pin.ensures.begins in
      subst (λ r. IfOk r (λ pin. PinsAsEvent c.args.self.now pin)) (sym w.result-is)
      (pin_is c.args.self.now w.on.result (subst (λ m. Begins m w.on.result) c.self.view_is
      (subst (λ v. Begins c.self.inside.side v) (sym w.on.ensures) begins))))
  | in-Err w ↦ subst (λ r. IfOk r (λ pin. PinsAsEvent c.args.self.now pin)) (sym w.result-is) tt
]
