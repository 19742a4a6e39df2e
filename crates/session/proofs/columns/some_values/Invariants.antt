use Rattle.std.proofs.Common.{◌≡◌}
use Rattle.std.specs.Prelude.{map, filter}
use Rattle.graph_model.specs.Graph.{numbers_below}
use Rattle.session_model.specs.Responses.{value_at, is_not_zero}
use Rattle.session.proofs.columns.some_values.Given as goal

-- the values so far
abbrev pub invariant-loop-vertex : goal.invariant-loop-vertex
invariant-loop-vertex l = l.rows.items ≡ filter is_not_zero (map (value_at l.numbers) (numbers_below l.vertex))
