use Rattle.gapped_array.specs.Runs.{IsFirstBelow}
use Rattle.gapped_array.proofs.packing.first_from.Given as goal

abbrev pub invariant-loop-vertex : goal.invariant-loop-vertex
invariant-loop-vertex l = IsFirstBelow l.vertex l.from l.runs l.first
