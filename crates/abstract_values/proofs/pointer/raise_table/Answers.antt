use Rattle.std.proofs.Common.{arith, to_z, of_z}
use Rattle.std.specs.Prelude.{ℤ, pos, ◌+ℤ◌}
use Rattle.std.specs.Int.{w128}
use Rattle.std.proofs.lemmas.Int.{ints}
use Rattle.abstract_values.specs.Values.{least_distance, greatest_distance}
use Rattle.abstract_values.proofs.Pointers.{table_pointer_at}
use Rattle.abstract_values.proofs.pointer.raise_table.Goals as goal

-- the code's sums, which fit
abbrev sum : ℤ → ℤ → ℤ
sum a b = to_z w128 (of_z w128 (to_z w128 (of_z w128 a) +ℤ to_z w128 (of_z w128 b)))

pub returns : goal.returns
returns c =
    let least = c.distances-least.ensures.least in
    let greatest = c.distances-least.ensures.greatest in
    let short = c.distances-least.ensures.short in
    table_pointer_at c.args.lengths (sum c.from.result c.distances-least.result.0) (sum c.from-2.result c.distances-least.result.1) (pos c.args.lo +ℤ least_distance c.args.range) (pos c.args.hi +ℤ greatest_distance c.args.range) _ c.point_into_table.ensures (omega (arith, ints, least, greatest, short.0, short.1)) (omega (arith, ints, least, greatest, short.0, short.1))
