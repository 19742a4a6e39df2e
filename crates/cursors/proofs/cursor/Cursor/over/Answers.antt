use Rattle.std.proofs.Common.{◌≤◌, sym, subst, ◌∙◌}
use Rattle.graph_model.proofs.Neighbours.{neighbours-outside}
use Rattle.shard_table.specs.Table.{IsShardOf}
use Rattle.cursors.proofs.cursor.Cursor.over.Goals as goal

pub returns-in-None : goal.returns-in-None
returns-in-None c =
    λ g is.
    let outside = c.in-None.ensures.list g (subst (λ v. IsShardOf g v c.args.shard) (sym c.from.ensures) is) in
    c.of_none.ensures ∙ sym (neighbours-outside g c.args.vertex (subst (λ v. g.vertex_count ≤ v) c.from.ensures outside))
