use Rattle.std.proofs.Common.{◌≤◌, ◌-◌, length, drop}
use Rattle.service.specs.Served.{Serving}
use Rattle.service.proofs.lines.execute_lines.Given as goal

-- the lines so far are said
abbrev pub invariant-loop-end : goal.invariant-loop-end
invariant-loop-end g l =
    (l.from ≤ length l.bytes) × Serving l.fn.script l.script l.bytes (drop l.from l.bytes) l.fn.text.items l.text.items

abbrev pub decreases-loop-end : goal.decreases-loop-end
decreases-loop-end g l = length l.bytes - l.from
