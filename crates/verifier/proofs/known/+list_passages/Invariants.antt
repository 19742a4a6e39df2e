use Rattle.std.proofs.Common.{◌-◌}
use Rattle.abstract_state.specs.States.{most_callers}
use Rattle.verifier.proofs.known.+list_passages.Given as goal

abbrev pub decreases-list_passages : goal.decreases-list_passages
decreases-list_passages l = most_callers - l.passage.frame
