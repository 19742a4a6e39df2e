use Rattle.batch_apply.proofs.hands.+spread.Given as goal

abbrev pub decreases-spread : goal.decreases-spread
decreases-spread g l = l.bound
