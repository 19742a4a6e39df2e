use Rattle.std.proofs.Common.{◌≡◌, ◌≤◌, ◌-◌, length, take}
use Rattle.std.specs.Io.KnownBytes.{Appends}
use Rattle.service.proofs.writing.write_all.Given as goal

-- so many bytes are written
abbrev pub invariant-loop-from : goal.invariant-loop-from
invariant-loop-from g l =
    (l.from ≤ length l.text)
    × Appends (g.O.Output.contents l.fn.output) (g.O.Output.contents l.output) (take l.from l.text)
    × (g.O.Output.failures l.output ≡ g.O.Output.failures l.fn.output)

abbrev pub decreases-loop-from : goal.decreases-loop-from
decreases-loop-from g l = length l.text - l.from
