use Rattle.std.proofs.Common.{◌≡◌, ◌≤◌, ◌-◌, ℕ, List, [], length, Option}
use Rattle.service.specs.Rounds.{IsWritten}
use Rattle.service.proofs.RoundLemmas.{left_from}
use Rattle.service.proofs.serving.Serving.advance.Given as goal

-- what the lines so far say is written, and the bytes from a place on are left
abbrev pub invariant-lines : goal.invariant-lines
invariant-lines g l = record {
  said : l.self.text ≡ [];
  inside : l.from ≤ length l.self.pending;
  written : (read : List ℕ) (held : Option (List ℕ)) → IsWritten read held (g.O.Output.contents l.fn.output) l.fn.self → IsWritten read held (g.O.Output.contents l.output) (left_from l.self l.from);
  writes : g.O.Output.failures l.output ≡ g.O.Output.failures l.fn.output;
}

abbrev pub decreases-lines : goal.decreases-lines
decreases-lines g l = length l.self.pending - l.from
