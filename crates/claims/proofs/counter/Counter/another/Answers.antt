use Rattle.std.proofs.Common.{rules, ◌≡◌, ◌<◌, [], arith}
use Rattle.claims.proofs.Steps.{split}
use Rattle.claims.proofs.counter.Counter.another.Goals as goal

pub split_seat-requires : goal.split_seat-requires
split_seat-requires c =
    let h = c.claimant.inside.seat.me.0 in
    let parts : 1 < h.parts = search rules in
    let fresh : h.claimed ≡ [] = search rules in
    (search rules, omega (arith, c.self.invariant), λ s rule at. split s.words s.views c.claimant.inside.seat.id h rule at parts fresh)
