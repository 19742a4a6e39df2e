use Rattle.std.proofs.Common.{arith}
use Rattle.map_model.proofs.Pushes.{none_counted, one_differs, one_stays, all_counted}
use Rattle.map_model.proofs.push.count_changed.Goals.{then-before-at, else-before-at}
use Rattle.map_model.proofs.push.count_changed.Goals as goal

pub places-init : goal.places-init
places-init c = none_counted c.args.before.now c.args.after.now

pub places-preserved : goal.places-preserved
places-preserved c =
    elim c.if-before-at.branch [
      | then-before-at w ↦ rw w.count-is (one_differs c.args.before.now c.args.after.now c.places.at c.places.count c.places-test.true c.requires c.places.invariant w.if-before-at.true)
      | else-before-at w ↦ rw w.count-is (one_stays c.args.before.now c.args.after.now c.places.at c.places.count c.places-test.true c.requires c.places.invariant w.if-before-at.false)
    ]

pub returns : goal.returns
returns c = all_counted c.args.before.now c.args.after.now c.places.at c.places.count (omega (arith, c.places-test.false)) c.places.invariant
