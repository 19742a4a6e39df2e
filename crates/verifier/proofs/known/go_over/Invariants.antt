use Rattle.std.proofs.Common.{◌-◌, ◌≤◌, []}
use Rattle.verifier.specs.Equations.{calls_of}
use Rattle.verifier.specs.Tables.{passage_of, IsGoneTo}
use Rattle.verifier.proofs.Knowing.{IsKeptTo}
use Rattle.verifier.proofs.known.go_over.Given as goal

abbrev pub invariant-loop-pc : goal.invariant-loop-pc
invariant-loop-pc l =
    (IsGoneTo l.layout.image.now (calls_of l.layout.image.now (passage_of l.fn.passage)) (passage_of l.fn.passage) [] l.pc (l.end - 1) l.states.items l.exits) × (l.entry ≤ l.pc) × (l.pc ≤ l.end)
    × IsKeptTo l.layout.image.now (passage_of l.fn.passage) l.pc l.kept.items
