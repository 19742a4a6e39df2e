use Rattle.std.proofs.Common.{map}
use Rattle.edge_fold.proofs.Gathered.{AreGathered}
use Rattle.edge_fold.proofs.ends.gather_ends.Given as goal

abbrev pub invariant-columns : goal.invariant-columns
invariant-columns l = AreGathered (map (λ column. column.now) l.columns) l.at l.fn.edges l.edges
