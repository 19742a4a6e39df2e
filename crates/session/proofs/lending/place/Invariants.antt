use Rattle.std.proofs.Common.{◌≡◌, drop}
use Rattle.session_model.specs.Responses.{placed}
use Rattle.session.proofs.lending.place.Given as goal

-- what is placed so far, and what is left
abbrev pub invariant-loop-at : goal.invariant-loop-at
invariant-loop-at l =
    placed (drop l.at l.frontier) (drop l.at l.values) l.numbers ≡ placed l.frontier l.values l.fn.numbers
