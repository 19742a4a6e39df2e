use Rattle.std.proofs.Common.{◌≡◌, ◌∷◌, drop}
use Rattle.session_model.specs.Faults.{is_ascending}
use Rattle.session.proofs.frontier.ascends.Given as goal

-- the vertices so far ascend
abbrev pub invariant-loop-vertex : goal.invariant-loop-vertex
invariant-loop-vertex l = is_ascending l.frontier ≡ is_ascending (l.before ∷ drop l.vertex-index l.rest)
