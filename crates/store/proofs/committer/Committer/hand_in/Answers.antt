use Rattle.std.proofs.Common.{◌≡◌, ap, sym, subst, ◌∙◌}
use Rattle.history.specs.Moment.{Moment, Begins}
use Rattle.store.specs.Pending.{Committing, entry_of, moment_after}
use Rattle.store.proofs.Recording.{begins_after}
use Rattle.store.proofs.committer.Committer.hand_in.Goals as goal

pub append-requires-clause-later : goal.append-requires-clause-later
append-requires-clause-later g c =
    let last : Moment = c.self.inside.board.shown in
    let is : last ≡ c.args.self.now.moment = c.self.invariant.1 ∙ ap (λ (p : Committing). p.moment) c.self.view_is in
    let change = entry_of c.args.change in
    subst (Begins last) (sym (c.requires.owners.0 ∙ ap (λ (m : Moment). moment_after m change) (sym is))) (begins_after last change)
