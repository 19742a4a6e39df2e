use Rattle.std.proofs.Common.{◌*◌, ◌-◌, ◌≤◌, take, drop, subst, arith}
use Rattle.edge_map.specs.Maps.{IsMap}
use Rattle.edge_map.specs.Plans.{task_of}
use Rattle.edge_map.proofs.Frontiers.{piece_places, part_short}
use Rattle.edge_map.proofs.piece.map_piece.Goals as goal

pub returns-clause-part : goal.returns-clause-part
returns-clause-part c =
    let t = task_of c.args.plan.now in
    let out = c.in_ok-outcome.outcome in
    let from = c.args.number * 64 in
    let until = c.min-until.result in
    let part = take (until - from) (drop from t.frontier) in
    let here : IsMap t.rows t.program t.graph t.reduction t.argument part out = record { edges = c.in_ok-outcome.ensures.edges; total = c.in_ok-outcome.ensures.total; reported = c.in_ok-outcome.ensures.rows } in
    let few : until - from ≤ 64 = omega (arith, c.min-until.ensures) in
    record {
      right = subst (λ xs. IsMap t.rows t.program t.graph t.reduction t.argument xs out) (piece_places t.frontier c.args.number until c.min-until.ensures) here;
      most = omega (arith, c.in_ok-outcome.ensures.most, part_short (drop from t.frontier) (until - from) few);
    }
