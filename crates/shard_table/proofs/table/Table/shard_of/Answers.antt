use Rattle.std.proofs.Common.{◌*◌, ◌/◌, ◌≤◌, sym, subst}
use Rattle.shard_table.specs.Table.{IsPartAt}
use Rattle.shard_table.proofs.TableLemmas.{range_past}
use Rattle.shard_table.proofs.table.Table.shard_of.Goals as goal

pub returns-in_err-shard : goal.returns-in_err-shard
returns-in_err-shard c =
    λ g table.
    rw c.from_residual.ensures (subst (λ k. g.vertex_count ≤ 256 * (c.args.vertex / k)) c.from.ensures (range_past g c.args.self.now (c.args.vertex / c.from.result) table c.in_err-shard.ensures))

pub returns : goal.returns
returns c =
    λ g table.
    let range = c.args.vertex / c.from.result in
    subst (λ k. IsPartAt g (c.args.vertex / k) c.in_ok-shard.shard.now) c.from.ensures (subst (IsPartAt g range) (sym c.in_ok-shard.ensures.1) (table.each range c.in_ok-shard.ensures.0))
