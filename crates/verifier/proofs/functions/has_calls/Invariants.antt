use Rattle.std.proofs.Common.{◌≡◌, ℕ, ◌<◌, false}
use Rattle.verifier.specs.Listing.{instruction_at}
use Rattle.verifier.specs.Tables.{calls_one}
use Rattle.verifier.proofs.functions.has_calls.Given as goal

abbrev pub invariant-loop-pc : goal.invariant-loop-pc
invariant-loop-pc l = (q : ℕ) → q < l.pc → calls_one (instruction_at l.image q) ≡ false
