use Rattle.std.proofs.Common.{◌∙◌, [], length, sym, ap, subst, subst₂}
use Rattle.std.proofs.lemmas.List.{length-replicate}
use Rattle.shards.specs.Pages.{ArePages}
use Rattle.shards.specs.Part.{IsShard}
use Rattle.shards.proofs.PartLemmas.{empty_shard}
use Rattle.shards.proofs.shard.Shard.new.Goals as goal

pub invariant_of-result : goal.invariant_of-result
invariant_of-result c =
    let made = c.in_ok-pages.ensures in (
      subst (λ w. ArePages w c.in_ok-pages.pages.items) (sym c.greatest.ensures) made.pages,
      sym (ap length made.rows ∙ length-replicate c.args.vertices []),
      subst₂ (λ rows homes. IsShard record { range = c.args.range; rows = rows; homes = homes }) (sym made.rows) (sym made.homes) (empty_shard c.args.range c.args.vertices c.requires.range c.requires.some c.requires.few),
    )
