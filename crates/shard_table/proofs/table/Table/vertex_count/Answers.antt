use Rattle.std.proofs.Common.{◌+◌, ◌<◌, ◌≤◌, List, length, ap, arith}
use Rattle.shards.specs.Part.{Part}
use Rattle.shard_table.proofs.TableLemmas.{range_past}
use Rattle.shard_table.proofs.table.Table.vertex_count.Goals as goal

pub returns-in_default : goal.returns-in_default
returns-in_default c =
    λ g table.
    let all = c.self.invariant.1 in
    let none : length c.args.self.now ≤ 0 = omega (arith, all, ap (λ (p : List Part). length p) c.self.view_is, c.in_default.ensures) in
    let few = range_past g c.args.self.now 0 table none in
    omega arith

pub returns : goal.returns
returns c =
    λ g table.
    let all = c.self.invariant.1 in
    let last = c.in-Some.last in
    let inside : last < length c.args.self.now = c.in-Some-shard_at.ensures.0 in
    let end : length c.args.self.now ≤ last + 1 = omega (arith, all, ap (λ (p : List Part). length p) c.self.view_is, c.in-Some.ensures) in
    let low = (table.ranges last).0 inside in
    let high = range_past g c.args.self.now (last + 1) table end in
    let size = (table.each last inside).size in
    omega (arith, size, ap (λ (p : Part). length p.rows) c.in-Some-shard_at.ensures.1, c.vertex_count.ensures.value, c.from.ensures)
