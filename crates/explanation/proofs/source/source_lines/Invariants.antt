use Rattle.std.proofs.Common.{◌≡◌, map, ◌+◌, ◌++◌, filter, drop}
use Rattle.explanation.specs.SourceLines.{as_numbered, holds_statement, numbered}
use Rattle.explanation.proofs.source.source_lines.Given as goal

abbrev pub invariant-loop-ordinal : goal.invariant-loop-ordinal
invariant-loop-ordinal l =
    map as_numbered l.statements.items ++ filter holds_statement (numbered (l.ordinal + 1) (drop l.ordinal (map (λ line. line.now) l.line-items))) ≡ filter holds_statement (numbered 1 (map (λ line. line.now) l.line-items))
