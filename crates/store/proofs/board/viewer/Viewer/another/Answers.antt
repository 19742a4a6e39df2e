use Rattle.std.proofs.Common.{ap, ◌∙◌}
use Rattle.left_right.specs.Sides.{view}
use Rattle.store.specs.declared.board.member.Member.{Member}
use Rattle.store.proofs.Pooling.{pops, forks}
use Rattle.store.proofs.board.viewer.Viewer.another.Goals as goal

pub try_pop_as-requires-clause-rule : goal.try_pop_as-requires-clause-rule
try_pop_as-requires-clause-rule c = pops (λ r. view r.place) _ _ c.self.invariant.3.0

pub another-membership-requires-clause-rule : goal.another-membership-requires-clause-rule
another-membership-requires-clause-rule c =
    forks (λ r. view r.place) _ _ (ap (λ (v : Member). v.sole) c.in-Some.ensures.rule.0 ∙ c.self.invariant.3.0)
