use Rattle.std.proofs.Common.{length, ap, sym, subst, arith}
use Rattle.std.proofs.lemmas.List.{length_push}
use Rattle.edge_map.specs.Plans.{task_of}
use Rattle.edge_map.proofs.Works.{IsWorking, nothing_yet, one_more, ended}
use Rattle.edge_map.proofs.work.work.Goals as goal

pub claims-init : goal.claims-init
claims-init g c =
    (subst (IsWorking (task_of c.args.plan) c.args.me.parts c.args.me) (sym c.new-pieces.ensures.items) (nothing_yet (task_of c.args.plan) c.args.me c.requires.of c.requires.fresh), c.for_program-memory.ensures.table)

pub claim-number-requires-clause-of : goal.claim-number-requires-clause-of
claim-number-requires-clause-of g c = c.claims.invariant.0.of

pub claim-number-requires-clause-room : goal.claim-number-requires-clause-room
claim-number-requires-clause-room g c = omega (arith, c.claims.invariant.0.many, c.claims.invariant.0.few, c.claims.invariant.0.has, c.requires.parts, c.count_pieces-count.ensures.value, c.count_pieces-count.ensures.few)

pub claims-preserved : goal.claims-preserved
claims-preserved g c = (
  subst (IsWorking (task_of c.args.plan) c.args.me.parts c.claim-number.new.claimant) (sym c.in_ok-push.ensures.items)
      (one_more (task_of c.args.plan) c.args.me.parts c.claims.claimant c.claim-number.new.claimant c.claims.pieces.items _ c.claims.invariant.0 c.claim-number.ensures.claim c.claim-number.ensures.least (omega (arith, c.count_pieces-count.ensures.value), c.in_ok-outcome.ensures.part)),
  c.map_piece-outcome.ensures.memory,
)

pub claims-smaller : goal.claims-smaller
claims-smaller g c = omega (arith, ap length c.in_ok-push.ensures.items, length_push c.claims.pieces.items (record { number = c.claim-number.result; outcome = c.in_ok-outcome.field-0 }), c.claims.invariant.0.many, c.claim-number.ensures.least, c.count_pieces-count.ensures.value)

pub returns : goal.returns
returns g c = ended (task_of c.args.plan) c.args.me.parts c.claims.claimant c.claim-number.new.claimant c.claims.pieces.items c.claim-number.result c.claims.invariant.0 c.claim-number.ensures.claim (omega (arith, c.count_pieces-count.ensures.value))
