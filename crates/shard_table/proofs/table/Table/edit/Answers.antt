use Rattle.std.proofs.Common.{sym, subst}
use Rattle.shards.specs.Part.{AreEditsOf}
use Rattle.shard_table.proofs.table.Table.edit.Goals as goal

pub of-requires : goal.of-requires
of-requires c = subst (λ p. AreEditsOf p c.args.edits.now) (sym c.in-Some.ensures.1) c.requires.edits
