use Rattle.std.proofs.Common.{arith}
use Rattle.map_model.proofs.Pushes.{none_pushed, one_pushed, all_pushed}
use Rattle.map_model.proofs.push.push_numbers.Goals as goal

pub targets-init : goal.targets-init
targets-init c = none_pushed c.args.reduction c.args.targets.now c.args.numbers.now c.args.values.now

pub targets-preserved : goal.targets-preserved
targets-preserved c =
    one_pushed c.args.reduction c.args.targets.now c.args.numbers.now c.args.values.now c.targets.at c.targets.values c.push_number.new.values c.targets-test.true c.requires.enough c.targets.invariant c.push_number.ensures

pub returns-clause-pushed : goal.returns-clause-pushed
returns-clause-pushed c =
    all_pushed c.args.reduction c.args.targets.now c.args.numbers.now c.args.values.now c.targets.at c.targets.values (omega (arith, c.targets-test.false)) c.targets.invariant

pub returns-clause-long : goal.returns-clause-long
returns-clause-long c = c.targets.invariant.long
