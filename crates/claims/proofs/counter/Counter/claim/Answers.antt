use Rattle.std.proofs.Common.{rules, arith}
use Rattle.claims.proofs.Steps.{claims}
use Rattle.claims.proofs.counter.Counter.claim.Goals as goal

pub fetch_add-requires : goal.fetch_add-requires
fetch_add-requires c = (search rules, omega (arith, c.self.invariant), claims _ _ _ (search rules))
