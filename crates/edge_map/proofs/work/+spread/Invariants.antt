use Rattle.edge_map.proofs.work.+spread.Given as goal

abbrev pub decreases-spread : goal.decreases-spread
decreases-spread g l = l.team.more
