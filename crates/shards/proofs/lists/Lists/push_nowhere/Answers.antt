use Rattle.std.proofs.Common.{refl}
use Rattle.shards.proofs.ListLemmas.{pushed_nowhere}
use Rattle.shards.proofs.lists.Lists.push_nowhere.Goals as goal

pub returns-clause-pushed : goal.returns-clause-pushed
returns-clause-pushed c = pushed_nowhere c.args.self.now _ c.requires.kept c.push.ensures.items refl refl refl refl
