use Rattle.std.proofs.Common.{length}
use Rattle.test_calls.proofs.homes.whole.Given as goal

abbrev pub decreases-slices : goal.decreases-slices
decreases-slices l = length l.slices
