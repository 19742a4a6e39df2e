use Rattle.std.proofs.Common.{Contains, subst}
use Rattle.std.proofs.lemmas.Bool.{false≢true}
use Rattle.graph_model.proofs.Neighbours.{neighbours-outside, Contains-nil}
use Rattle.cursors.proofs.answers.has_edge.Goals as goal

pub returns-in-None : goal.returns-in-None
returns-in-None c =
    λ g table. (
      λ t. absurd (false≢true t),
      λ among. absurd (Contains-nil c.args.target (subst (λ l. Contains l c.args.target) (neighbours-outside g c.args.source (c.in-None.ensures.list g table)) among)),
    )
