use Rattle.std.proofs.Common.{subst}
use Rattle.shards.specs.Part.{IsShard}
use Rattle.shards.proofs.PartLemmas.{few_targets}
use Rattle.shards.proofs.shard.Shard.lent_at.Goals as goal

pub returns-clause-small : goal.returns-clause-small
returns-clause-small c = few_targets c.args.self.now c.args.vertex (subst IsShard c.self.view_is c.self.invariant.2) c.requires
