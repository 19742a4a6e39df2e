use Rattle.std.proofs.Common.{◌-◌, ◌*◌}
use Rattle.edge_map.proofs.shares.+shared.Given as goal

abbrev pub decreases-do_by : goal.decreases-do_by
decreases-do_by g l = 2 * l.others

abbrev pub decreases-by_rest : goal.decreases-by_rest
decreases-by_rest g l = 2 * l.others - 1
