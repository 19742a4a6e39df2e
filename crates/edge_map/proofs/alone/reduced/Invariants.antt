use Rattle.std.proofs.Common.{◌≡◌, take}
use Rattle.map_model.specs.EdgeMap.{reduction_of_numbers}
use Rattle.edge_map.proofs.alone.reduced.Given as goal

abbrev pub invariant-numbers : goal.invariant-numbers
invariant-numbers l = l.so_far ≡ reduction_of_numbers l.reduction (take l.at l.numbers)
