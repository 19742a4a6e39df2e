use Rattle.std.proofs.Common.{◌≡◌, ◌≤◌, ℕ, ap, sym, ◌∙◌, subst, arith, inr}
use Rattle.left_right.specs.Sides.{view}
use Rattle.crossbeam_queue.specs.Passes.{view as member_of}
use Rattle.history.specs.Moment.{Moment, moment_of, count_of, Begins}
use Rattle.history.proofs.Moments.{begins_itself, begins_of_prefix, vertex_count-moment_of}
use Rattle.store.proofs.Learning.{one_book, all_know, member_still}
use Rattle.store.proofs.board.viewer.Viewer.learn.Goals as goal

pub invariant_of-self : goal.invariant_of-self
invariant_of-self c =
    let n : ℕ = c.self.inside.vertex_count in
    let book : c.known-known.result.0.book ≡ c.self.inside.known.book =
    ap (λ (m : Moment). m.book) c.known-known.ensures.known ∙ c.requires.0 ∙ sym (ap (λ (m : Moment). m.book) c.self.view_is) in
    let one = one_book n c.self.inside.known c.known-known.result.0 book in (
      c.known-known.ensures.count,
      all_know (moment_of n c.self.inside.known) (moment_of n c.known-known.result.0) c.self.inside.inner (λ inner. view inner.place) one c.self.invariant.1,
      c.self.invariant.2,
      member_still (moment_of n c.self.inside.known) (moment_of n c.known-known.result.0) (member_of c.self.inside.membership) one c.self.invariant.3,
    )

pub returns-then-count-self-clause-one : goal.returns-then-count-self-clause-one
returns-then-count-self-clause-one c =
    let n : ℕ = c.self.inside.vertex_count in
    let mine : n ≡ c.args.self.now.past.vertex_count = sym (vertex_count-moment_of n c.self.inside.known) ∙ ap (λ (m : Moment). m.past.vertex_count) c.self.view_is in
    inr (ap (λ (k : ℕ). moment_of k c.known-known.result.0) (mine ∙ sym c.requires.1) ∙ c.known-known.ensures.known)

pub returns-then-count-self-clause-this : goal.returns-then-count-self-clause-this
returns-then-count-self-clause-this c =
    let n : ℕ = c.self.inside.vertex_count in
    let book : c.known-known.result.0.book ≡ c.self.inside.known.book =
    ap (λ (m : Moment). m.book) c.known-known.ensures.known ∙ c.requires.0 ∙ sym (ap (λ (m : Moment). m.book) c.self.view_is) in
    let theirs = c.known-known.ensures.count in
    let ours = c.self.invariant.0 in
    let fewer : count_of c.self.inside.known ≤ count_of c.known-known.result.0 = omega arith in
    subst (λ (m : Moment). Begins m (moment_of n c.known-known.result.0)) c.self.view_is
    (begins_of_prefix n c.self.inside.known c.known-known.result.0 book (c.compare.ensures.right fewer))

pub returns-then-count-self-clause-that : goal.returns-then-count-self-clause-that
returns-then-count-self-clause-that c =
    let n : ℕ = c.self.inside.vertex_count in
    let mine : n ≡ c.args.self.now.past.vertex_count = sym (vertex_count-moment_of n c.self.inside.known) ∙ ap (λ (m : Moment). m.past.vertex_count) c.self.view_is in
    let is : moment_of n c.known-known.result.0 ≡ c.args.version.now = ap (λ (k : ℕ). moment_of k c.known-known.result.0) (mine ∙ sym c.requires.1) ∙ c.known-known.ensures.known in
    subst (λ (m : Moment). Begins m (moment_of n c.known-known.result.0)) is (begins_itself (moment_of n c.known-known.result.0))

pub returns-else-count-self-clause-this : goal.returns-else-count-self-clause-this
returns-else-count-self-clause-this c =
    let n : ℕ = c.self.inside.vertex_count in
    subst (λ (m : Moment). Begins c.args.self.now m) c.self.view_is (subst (λ (m : Moment). Begins m (moment_of n c.self.inside.known)) c.self.view_is (begins_itself (moment_of n c.self.inside.known)))

pub returns-else-count-self-clause-that : goal.returns-else-count-self-clause-that
returns-else-count-self-clause-that c =
    let n : ℕ = c.self.inside.vertex_count in
    let mine : n ≡ c.args.self.now.past.vertex_count = sym (vertex_count-moment_of n c.self.inside.known) ∙ ap (λ (m : Moment). m.past.vertex_count) c.self.view_is in
    let is : moment_of n c.known-known.result.0 ≡ c.args.version.now = ap (λ (k : ℕ). moment_of k c.known-known.result.0) (mine ∙ sym c.requires.1) ∙ c.known-known.ensures.known in
    let book : c.known-known.result.0.book ≡ c.self.inside.known.book =
    ap (λ (m : Moment). m.book) c.known-known.ensures.known ∙ c.requires.0 ∙ sym (ap (λ (m : Moment). m.book) c.self.view_is) in
    let theirs = c.known-known.ensures.count in
    let ours = c.self.invariant.0 in
    let fewer : count_of c.known-known.result.0 ≤ count_of c.self.inside.known = omega arith in
    subst (λ (m : Moment). Begins c.args.version.now m) c.self.view_is
    (subst (λ (m : Moment). Begins m (moment_of n c.self.inside.known)) is (begins_of_prefix n c.known-known.result.0 c.self.inside.known (sym book) (c.compare.ensures.left fewer)))
