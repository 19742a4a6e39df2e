use Rattle.std.proofs.Common.{◌≡◌, take}
use Rattle.std.specs.Prelude.{map}
use Rattle.session_model.specs.Responses.{value_at}
use Rattle.session.proofs.columns.named_values.Given as goal

-- the values so far
abbrev pub invariant-loop-vertex : goal.invariant-loop-vertex
invariant-loop-vertex l = l.rows.items ≡ map (value_at l.numbers) (take l.vertex-index l.frontier)
