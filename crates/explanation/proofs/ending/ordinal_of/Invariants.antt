use Rattle.explanation.specs.Starts.{IsAt}
use Rattle.explanation.proofs.ending.ordinal_of.Given as goal

abbrev pub invariant-loop-before : goal.invariant-loop-before
invariant-loop-before l = IsAt l.image l.before l.cursor
