use Rattle.std.proofs.Common.{◌≡◌, sym, ap, ◌∙◌, rules}
use Rattle.std.specs.Arc.{arc_value}
use Rattle.left_right.specs.Sides.{view}
use Rattle.crossbeam_queue.specs.Passes.{view as member_of, IsPassOf}
use Rattle.history.specs.Moment.{Moment, moment_of}
use Rattle.store.specs.declared.board.board_view.BoardView.{BoardView}
use Rattle.store.specs.declared.board.member.Member.{Member}
use Rattle.store.specs.BoardViews.{board_view}
use Rattle.store.specs.Pool.{member}
use Rattle.store.proofs.board.opening.open_board.Goals as goal

pub invariant_of-result-in-Ok : goal.invariant_of-result-in-Ok
invariant_of-result-in-Ok g c =
    let mine : view c.in-Ok.inner.place ≡ board_view c.args.version.now = search rules in
    let of : member_of c.seat_all.new.membership ≡ member c.args.version.now = search rules in
    let pass : IsPassOf (arc_value c.in_ok-pool-2.pool) c.seat_all.new.membership = search rules in
    let is : moment_of c.vertex_count.result c.known-known.result.0 ≡ c.args.version.now =
    ap (λ n. moment_of n c.known-known.result.0) c.vertex_count.ensures ∙ c.known-known.ensures.known in
    let book = sym (ap (λ (m : Moment). m.book) is) in
    let count = sym (ap (λ (m : Moment). m.past.vertex_count) is) in (
      c.known-known.ensures.count,
      (ap (λ (x : BoardView). x.knows) mine, (ap (λ (x : BoardView). x.version.book) mine ∙ book, ap (λ (x : BoardView). x.version.past.vertex_count) mine ∙ count)),
      pass,
      (ap (λ (x : Member). x.sole) of, (ap (λ (x : Member). x.of.book) of ∙ book, ap (λ (x : Member). x.of.past.vertex_count) of ∙ count)),
    )
