use Rattle.std.proofs.Common.{◌+◌, ◌*◌, length}
use Rattle.shard_table.proofs.letting_go.+fn-let_go_each-join+arg3+let_go_each.Given as goal

abbrev pub decreases-join+arg3 : goal.decreases-join+arg3
decreases-join+arg3 g l = 2 * length l.rest.items + 1

abbrev pub decreases-let_go_each : goal.decreases-let_go_each
decreases-let_go_each g l = 2 * length l.lists.items
