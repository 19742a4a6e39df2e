use Rattle.explanation.proofs.Lines.{kept}
use Rattle.explanation.proofs.source.source_lines.Goals as goal

pub loop-ordinal-preserved : goal.loop-ordinal-preserved
loop-ordinal-preserved c =
    kept c.deref-line-items.result.now c.loop-ordinal.ordinal _ _ _ _ c.loop-ordinal-test.true c.in_ok-put_statement.ensures c.loop-ordinal.invariant
