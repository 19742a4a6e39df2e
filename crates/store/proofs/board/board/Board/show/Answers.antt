use Rattle.std.proofs.Common.{sym, ◌∙◌, subst, drop}
use Rattle.left_right.specs.Sides.{view}
use Rattle.history.specs.Moment.{Moment, Begins}
use Rattle.store.specs.declared.board.shown.Shown.{Shown}
use Rattle.store.proofs.Growing.{turns}
use Rattle.store.proofs.Waiting.{at_some, shows_later, ok_shows}
use Rattle.store.proofs.board.board.Board.show.Goals as goal

pub publish_as-writer-requires : goal.publish_as-writer-requires
publish_as-writer-requires g c next is =
    let writer = c.in-Some.writer in
    let now = writer.desk.shown.value in
    let found = sym c.take.ensures.value ∙ c.in-Some.is in
    let board = at_some _ _ _ _ found c.self.invariant in
    turns (λ (s : Shown). s.version) now next _ _
    (subst (λ (m : Moment). Begins now.version m) (sym is)
    (shows_later now.version (view writer.desk.place) (drop writer.behind writer.log.items) board))

pub returns-clause-ok : goal.returns-clause-ok
returns-clause-ok g c =
    let writer = c.in-Some.writer in
    let shown = c.publish_as-writer.result.0 in
    let found = sym c.take.ensures.value ∙ c.in-Some.is in
    let now = rw found at c.self.view_is in
    let board = at_some _ _ _ _ found c.self.invariant in
    rw c.replace.ensures.after (ok_shows c.args.self.now writer.desk.shown.value.version shown.desk.shown.value.version
    (view writer.desk.place) (drop writer.behind writer.log.items) (drop shown.behind shown.log.items) c.publish_as-writer.result.1 _
    board now c.publish_as-writer.ensures.values)
