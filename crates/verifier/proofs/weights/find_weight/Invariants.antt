use Rattle.std.proofs.Common.{◌≡◌, ◌-◌, length}
use Rattle.bpf_image.specs.Program.{units}
use Rattle.verifier.proofs.WeightTable.{WeightsFrom}
use Rattle.verifier.proofs.weights.find_weight.Given as goal

abbrev pub invariant-loop-behind : goal.invariant-loop-behind
invariant-loop-behind l =
    (length l.weights.items ≡ units l.image) × WeightsFrom l.measure l.image l.weights.items (units l.image - l.behind)
