use Rattle.std.proofs.Common.{rules, arith}
use Rattle.claims.proofs.Steps.{counts}
use Rattle.claims.proofs.counter.Counter.count.Goals as goal

pub load-requires : goal.load-requires
load-requires c = (search rules, omega (arith, c.self.invariant), counts _ _ _)
