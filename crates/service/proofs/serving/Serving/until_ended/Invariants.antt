use Rattle.std.proofs.Common.{◌≡◌, ◌<◌, ℕ, List, [], length, Option}
use Rattle.service.specs.Served.{IsOneLine}
use Rattle.service.specs.Rounds.{IsServed}
use Rattle.service.proofs.serving.Serving.until_ended.Given as goal

-- what was read so far is served, all that it says is written, and nothing failed
abbrev pub invariant-loop : goal.invariant-loop
invariant-loop g l =
    (0 < length l.block) × (l.self.text ≡ []) × IsOneLine l.self.pending
    × ((had held : Option (List ℕ)) → IsServed had (g.I.Input.remaining l.fn.input) held (g.O.Output.contents l.fn.output) l.fn.self → IsServed had (g.I.Input.remaining l.input) held (g.O.Output.contents l.output) l.self)
    × (g.I.Input.failures l.input ≡ g.I.Input.failures l.fn.input)
    × (g.O.Output.failures l.output ≡ g.O.Output.failures l.fn.output)
