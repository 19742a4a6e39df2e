use Rattle.std.proofs.Common.{set, ap, ◌∙◌}
use Rattle.std.specs.Arc.{arc_value}
use Rattle.std.proofs.lemmas.List.{map-set}
use Rattle.stream_core.proofs.version_shards.VersionShards.set.Goals as goal

pub returns : goal.returns
returns c = map-set arc_value c.self.inside.shards.items c.args.range c.args.shard ∙ ap (λ l. set l c.args.range (arc_value c.args.shard)) c.self.view_is
