use Rattle.std.proofs.Common.{◌≡◌, ◌≤◌, ℕ, ap, sym, ◌∙◌, subst, arith}
use Rattle.left_right.specs.Sides.{view}
use Rattle.crossbeam_queue.specs.Passes.{view as member_of}
use Rattle.history.specs.Moment.{Moment, moment_of, count_of, Begins}
use Rattle.history.proofs.Moments.{begins_of_prefix, vertex_count-moment_of}
use Rattle.store.proofs.Learning.{one_book, all_know, member_still}
use Rattle.store.proofs.board.viewer.Viewer.pin.Goals as goal

pub invariant_of-self : goal.invariant_of-self
invariant_of-self c =
    let n : ℕ = c.self.inside.vertex_count in
    let before : moment_of n c.self.inside.known ≡ c.args.self.now = c.self.view_is ∙ c.in_ok-version.ensures.same in
    let book : c.known-known.result.0.book ≡ c.self.inside.known.book =
    ap (λ (m : Moment). m.book) c.known-known.ensures.known ∙ c.in_ok-version.ensures.store.0 ∙ sym (ap (λ (m : Moment). m.book) before) in
    let one = one_book n c.self.inside.known c.known-known.result.0 book in (
      c.known-known.ensures.count,
      all_know (moment_of n c.self.inside.known) (moment_of n c.known-known.result.0) c.self.inside.inner (λ inner. view inner.place) one c.self.invariant.1,
      c.self.invariant.2,
      member_still (moment_of n c.self.inside.known) (moment_of n c.known-known.result.0) (member_of c.self.inside.membership) one c.self.invariant.3,
    )

pub returns-clause-begins : goal.returns-clause-begins
returns-clause-begins c =
    let n : ℕ = c.self.inside.vertex_count in
    let before : moment_of n c.self.inside.known ≡ c.args.self.now = c.self.view_is ∙ c.in_ok-version.ensures.same in
    let mine : n ≡ c.args.self.now.past.vertex_count = sym (vertex_count-moment_of n c.self.inside.known) ∙ ap (λ (m : Moment). m.past.vertex_count) before in
    let is : moment_of n c.known-known.result.0 ≡ c.in_ok-version.version = ap (λ (k : ℕ). moment_of k c.known-known.result.0) (mine ∙ sym c.in_ok-version.ensures.store.1) ∙ c.known-known.ensures.known in
    let book : c.known-known.result.0.book ≡ c.self.inside.known.book =
    ap (λ (m : Moment). m.book) c.known-known.ensures.known ∙ c.in_ok-version.ensures.store.0 ∙ sym (ap (λ (m : Moment). m.book) before) in
    let theirs = c.known-known.ensures.count in
    let ours = c.self.invariant.0 in
    let fewer : count_of c.self.inside.known ≤ count_of c.known-known.result.0 = omega arith in
    subst (λ (m : Moment). Begins m c.in_ok-version.version) before
    (subst (λ (m : Moment). Begins (moment_of n c.self.inside.known) m) is (begins_of_prefix n c.self.inside.known c.known-known.result.0 book (c.compare.ensures.left fewer)))

pub returns-clause-seen : goal.returns-clause-seen
returns-clause-seen c =
    let n : ℕ = c.self.inside.vertex_count in
    let before : moment_of n c.self.inside.known ≡ c.args.self.now = c.self.view_is ∙ c.in_ok-version.ensures.same in
    let mine : n ≡ c.args.self.now.past.vertex_count = sym (vertex_count-moment_of n c.self.inside.known) ∙ ap (λ (m : Moment). m.past.vertex_count) before in
    ap (λ (k : ℕ). moment_of k c.known-known.result.0) (mine ∙ sym c.in_ok-version.ensures.store.1) ∙ c.known-known.ensures.known
