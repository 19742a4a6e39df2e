use Rattle.std.proofs.Common.{◌≡◌, ℕ, ◌<◌, false}
use Rattle.verifier.specs.Listing.{instruction_at}
use Rattle.verifier.specs.Writing.{writes_there}
use Rattle.verifier.proofs.writing.has_writes.Given as goal

abbrev pub invariant-loop-pc : goal.invariant-loop-pc
invariant-loop-pc l = (q : ℕ) → q < l.pc → writes_there (instruction_at l.image q) ≡ false
