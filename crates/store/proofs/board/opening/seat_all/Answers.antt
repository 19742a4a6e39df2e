use Rattle.std.proofs.Common.{sym, ap, ◌∙◌}
use Rattle.left_right.specs.Sides.{view}
use Rattle.history.specs.Moment.{Moment}
use Rattle.store.specs.declared.board.board_view.BoardView.{BoardView}
use Rattle.store.specs.declared.board.member.Member.{Member}
use Rattle.store.proofs.Pooling.{seeds, pushes}
use Rattle.store.proofs.board.opening.seat_all.Goals as goal

pub try_push_as-requires-clause-rule : goal.try_push_as-requires-clause-rule
try_push_as-requires-clause-rule c =
    let same = c.in_ok-first.ensures.knows ∙ c.in_ok-mine.ensures.known in
    seeds (λ r. view r.place) _ _ _ _ (ap (λ (v : Member). v.sole) c.requires.pass.1) (ap (λ (g : BoardView). g.knows) same ∙ c.requires.knows)

pub try_push_as-requires-in-seats-clause-rule : goal.try_push_as-requires-in-seats-clause-rule
try_push_as-requires-in-seats-clause-rule c =
    let kept = c.seats.invariant in
    let same = c.in_ok-next.ensures.knows ∙ kept.knows in
    let mine = ap (λ (v : Member). v.of) kept.member in
    let version = ap (λ (g : BoardView). g.version) same ∙ sym mine in
    pushes (λ r. view r.place) _ _ _ _ (ap (λ (v : Member). v.sole) kept.member)
    (ap (λ (g : BoardView). g.knows) same ∙ c.requires.knows, (ap (λ (m : Moment). m.book) version, ap (λ (m : Moment). m.past.vertex_count) version))
