use Rattle.std.proofs.Common.{ap, ◌∙◌}
use Rattle.past_model.specs.Past.{Past}
use Rattle.past_model.specs.Homes.{home_of}
use Rattle.version.proofs.version.Version.home.Goals as goal

pub returns : goal.returns
returns c =
    c.home.ensures ∙ c.self.invariant.homes c.args.vertex ∙ ap (λ (p : Past). home_of p c.args.vertex) c.self.view_is
