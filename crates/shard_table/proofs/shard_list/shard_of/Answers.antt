use Rattle.std.proofs.Common.{◌≡◌, ◌/◌, ◌<◌, ◌≤◌, length, get_or, sym, ap, subst, ◌∙◌}
use Rattle.std.specs.Arc.{arc_value}
use Rattle.std.proofs.lemmas.List.{length-map}
use Rattle.shard_table.specs.Table.{IsPartAt, parts_of, part_at}
use Rattle.shard_table.proofs.TableLemmas.{shown_part, range_past}
use Rattle.shard_table.proofs.shard_list.shard_of.Goals as goal

pub returns-in_err-get : goal.returns-in_err-get
returns-in_err-get c =
    λ g table.
    let shards = c.args.shards.now in
    let past : length shards ≤ c.args.vertex / 256 = subst (λ k. length shards ≤ c.args.vertex / k) c.from.ensures c.in_err-get.ensures.lookup.3 in
    rw c.from_residual.ensures (range_past g (parts_of shards) (c.args.vertex / 256) table (subst (λ n. n ≤ c.args.vertex / 256) (sym (length-map shards arc_value)) past))

pub returns : goal.returns
returns c =
    λ g table.
    let shards = c.args.shards.now in
    let v = c.args.vertex in
    let inside : v / 256 < length shards = subst (λ k. v / k < length shards) c.from.ensures c.in_ok-get.ensures.lookup.3.0 in
    let shard : c.deref-shard.result.now ≡ part_at (parts_of shards) (v / 256) =
    c.deref-shard.ensures
    ∙ ap arc_value (c.in_ok-get.ensures.lookup.1 ∙ ap (λ k. get_or shards (v / k) c.in_ok-get.field-0.now) c.from.ensures)
    ∙ shown_part shards (v / 256) c.in_ok-get.field-0.now inside in
    subst (IsPartAt g (v / 256)) (sym shard) (table.each (v / 256) (subst (λ n. v / 256 < n) (sym (length-map shards arc_value)) inside))
