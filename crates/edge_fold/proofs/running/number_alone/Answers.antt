use Rattle.edge_fold.proofs.Numbers.{alone}
use Rattle.edge_fold.proofs.running.number_alone.Goals as goal

pub returns-clause-number : goal.returns-clause-number
returns-clause-number c = alone _ _ c.fold_span.ensures.value c.fold_span.ensures.count
