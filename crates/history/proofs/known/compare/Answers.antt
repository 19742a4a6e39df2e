use Rattle.std.proofs.Common.{subst, List}
use mathlib.Core.List.{IsPrefix}
use Rattle.history.specs.declared.published.Published.{Published}
use Rattle.past_model.proofs.Beginnings.{prefix_shorter}
use Rattle.history.proofs.known.compare.Goals as goal

pub returns-clause-left : goal.returns-clause-left
returns-clause-left c le =
    let both = c.learn.new.self.log in
    let this : IsPrefix c.args.a.now.published both = subst (λ (l : List Published). IsPrefix l both) c.token-both.ensures.log c.learn.ensures.2 in
    let that : IsPrefix c.args.b.now.published both = subst (λ (l : List Published). IsPrefix l both) c.token.ensures.log c.learn.ensures.3 in
    prefix_shorter c.args.a.now.published c.args.b.now.published both this that le

pub returns-clause-right : goal.returns-clause-right
returns-clause-right c le =
    let both = c.learn.new.self.log in
    let this : IsPrefix c.args.a.now.published both = subst (λ (l : List Published). IsPrefix l both) c.token-both.ensures.log c.learn.ensures.2 in
    let that : IsPrefix c.args.b.now.published both = subst (λ (l : List Published). IsPrefix l both) c.token.ensures.log c.learn.ensures.3 in
    prefix_shorter c.args.b.now.published c.args.a.now.published both that this le
