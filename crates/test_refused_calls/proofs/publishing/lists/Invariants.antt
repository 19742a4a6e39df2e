use Rattle.std.proofs.Common.{length}
use Rattle.test_refused_calls.proofs.publishing.lists.Given as goal

abbrev pub decreases-slices : goal.decreases-slices
decreases-slices l = length l.cursor
