use Rattle.std.proofs.Common.{ap}
use Rattle.claims.specs.Claims.{Claiming}
use Rattle.claims.proofs.Fresh.{none_claimed}
use Rattle.claims.proofs.laws.nothing_is_claimed_at_first.Goals as goal

pub returns : goal.returns
returns c =
    none_claimed c.count.result c.in_ok-counter.claimant.claimed c.count.ensures.each (ap (λ (k : Claiming). k.claimed) c.in_ok-counter.ensures)
