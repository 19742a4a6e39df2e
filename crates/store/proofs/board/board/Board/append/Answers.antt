use Rattle.std.proofs.Common.{sym, ap, ◌∙◌, subst, drop}
use Rattle.history.specs.Moment.{Moment, Begins}
use Rattle.store.specs.Showing.{Showing}
use Rattle.store.proofs.Waiting.{at_some, appends, ok_appends}
use Rattle.store.proofs.board.board.Board.append.Goals as goal

pub invariant_of-self : goal.invariant_of-self
invariant_of-self c =
    let writer = c.in-Some.writer in
    let new = c.append.new.self in
    let now = rw c.in-Some.is at c.self.view_is in
    let board = at_some _ _ _ _ c.in-Some.is c.self.invariant in
    let later : Begins writer.desk.shown.value.version c.args.version =
    subst (λ (m : Moment). Begins m c.args.version) (sym (ap (λ (s : Showing). s.shown) now)) c.requires.later in
    rw c.append.ensures.desk (appends _ _ (drop writer.behind writer.log.items) (drop new.behind new.log.items) c.args.version c.append.result
    board (ap (λ (s : Showing). s.waiting) now ∙ c.requires.free) later c.append.ensures.pending)

pub returns-clause-ok : goal.returns-clause-ok
returns-clause-ok c =
    let writer = c.in-Some.writer in
    let new = c.append.new.self in
    let now = rw c.in-Some.is at c.self.view_is in
    rw c.append.ensures.desk (ok_appends c.args.self.now _ (drop writer.behind writer.log.items) (drop new.behind new.log.items) c.args.version c.append.result _
    now c.requires.free c.append.ensures.pending)
