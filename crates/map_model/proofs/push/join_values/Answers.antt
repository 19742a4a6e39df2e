use Rattle.std.proofs.Common.{arith}
use Rattle.map_model.proofs.Joined.{none_joined, one_changed, one_kept, all_joined}
use Rattle.map_model.proofs.push.join_values.Goals.{then-value-values, else-value-values}
use Rattle.map_model.proofs.push.join_values.Goals as goal

pub places-init : goal.places-init
places-init c = none_joined c.args.reduction c.args.values.now c.args.others.now

pub places-preserved : goal.places-preserved
places-preserved c =
    elim c.if-value-values.branch [
      | then-value-values w ↦ rw w.count-is (one_changed c.args.reduction c.args.values.now c.args.others.now c.places.at c.places.values c.places.count c.join-value.result c.places-test.true c.places.invariant c.join-value.ensures w.if-value-values.true)
      | else-value-values w ↦ rw w.count-is (one_kept c.args.reduction c.args.values.now c.args.others.now c.places.at c.places.values c.places.count c.join-value.result c.places-test.true c.places.invariant c.join-value.ensures w.if-value-values.false)
    ]

pub returns-clause-joined : goal.returns-clause-joined
returns-clause-joined c =
    all_joined c.args.reduction c.args.values.now c.args.others.now c.places.at c.places.values c.places.count (omega (arith, c.places-test.false, c.places.invariant.long)) c.requires c.places.invariant
