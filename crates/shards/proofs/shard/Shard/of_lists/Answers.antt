use Rattle.std.proofs.Common.{◌≡◌, ℕ, ◌*◌, List, length, sym, ap, subst₂, ◌∙◌}
use Rattle.shards.specs.Arrays.{rows_from, homes_from}
use Rattle.shards.specs.Pages.{rows_in, homes_in}
use Rattle.shards.specs.Part.{IsShard}
use Rattle.shards.proofs.ArrayLemmas.{shard_from, length-part_from}
use Rattle.shards.proofs.shard.Shard.of_lists.Goals as goal

pub invariant_of-result : goal.invariant_of-result
invariant_of-result c =
    let starts : List ℕ = c.args.lists.starts.now in
    let targets : List ℕ = c.args.lists.targets.now in
    let range : ℕ = c.args.range in
    let vertices : ℕ = c.args.vertices in
    let made = c.in_ok-cut.ensures in
    let rows : rows_in c.in_ok-cut.cut.pages.items ≡ rows_from starts targets (256 * range) vertices = made.rows ∙ ap (rows_from starts targets (256 * range)) c.from.ensures in
    let homes : homes_in c.in_ok-cut.cut.pages.items ≡ homes_from starts targets (256 * range) vertices = made.homes ∙ ap (homes_from starts targets (256 * range)) c.from.ensures in (
      made.pages,
      sym (ap length rows ∙ length-part_from starts targets range vertices),
      subst₂ (λ rows homes. IsShard record { range = range; rows = rows; homes = homes }) (sym rows) (sym homes)
          (shard_from starts targets range vertices c.requires.range c.requires.some c.requires.few c.requires.lists c.requires.inside),
    )
