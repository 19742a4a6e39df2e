use Rattle.std.proofs.Common.{◌≡◌, ◌-◌, ◌*◌, take}
use Rattle.gapped_array.specs.Runs.{live}
use Rattle.gapped_array.proofs.packing.surplus.Given as goal

abbrev pub invariant-loop-run : goal.invariant-loop-run
invariant-loop-run l = l.left ≡ l.segments - 2 * live (take l.run-index l.runs)
