use Rattle.std.proofs.Common.{◌≡◌, ◌<◌, length, sym, ap, subst, ◌∙◌}
use Rattle.std.specs.Arc.{arc_value}
use Rattle.std.proofs.lemmas.List.{length-map}
use Rattle.shard_table.proofs.TableLemmas.{shown_part}
use Rattle.shards.specs.Part.{IsPartAfter}
use Rattle.shard_table.specs.Table.{part_at}
use Rattle.stream_core.proofs.version_shards.VersionShards.edited.Goals as goal

pub returns : goal.returns
returns c =
    let shards = c.self.inside.shards.items in
    let range = c.args.range in
    let own = c.args.own.now in
    let inside : range < length shards = subst (λ n. range < n) (ap length (sym c.self.view_is) ∙ length-map shards arc_value) c.requires.inside in
    let part : c.deref.result.now ≡ part_at c.args.self.now range =
    c.deref.ensures ∙ ap arc_value c.index.ensures ∙ shown_part shards range c.index.result.now inside ∙ ap (λ l. part_at l range) c.self.view_is in
    subst (IsPartAfter own (part_at c.args.self.now range)) (sym c.in_ok-new.ensures.ok)
    (subst (λ p. IsPartAfter own p c.in_ok-shard.shard) part c.in_ok-shard.ensures.after)
