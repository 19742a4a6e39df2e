use Rattle.std.proofs.Common.{rules, arith}
use Rattle.claims.proofs.Steps.{joined}
use Rattle.claims.proofs.counter.Counter.join.Goals as goal

pub join_seat-requires : goal.join_seat-requires
join_seat-requires c =
    let h = c.claimant.inside.seat.me.0 in
    let o = c.other.inside.seat.me.0 in (
      search rules,
      search rules,
      c.other.invariant,
      omega (arith, c.self.invariant),
      λ s rule at apart there. joined s.words s.views c.claimant.inside.seat.id c.other.inside.seat.id h o rule at there apart,
    )
