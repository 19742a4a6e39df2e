use Rattle.std.proofs.Common.{sym, ap, ◌∙◌, subst}
use Rattle.left_right.specs.Sides.{view}
use Rattle.store.specs.declared.board.member.Member.{Member}
use Rattle.store.specs.BoardViews.{Knows}
use Rattle.store.proofs.Pooling.{pushes}
use Rattle.store.proofs.board.viewer.give_back.Goals as goal

pub try_push_as-requires-clause-rule : goal.try_push_as-requires-clause-rule
try_push_as-requires-clause-rule c =
    let kept = c.tries.invariant in
    let shared = ap (λ (v : Member). v.sole) kept.same ∙ c.requires.shared in
    let knows = subst (λ (v : Member). Knows v.of (view c.tries.reader.place)) (sym kept.same) kept.knows in
    pushes (λ r. view r.place) _ _ _ _ shared knows
