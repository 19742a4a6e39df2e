use Rattle.explanation.proofs.Starts.{at_first}
use Rattle.explanation.proofs.ending.ordinal_of.Goals as goal

pub loop-before-init : goal.loop-before-init
loop-before-init c = at_first c.args.image.now c.first-cursor.result c.first-cursor.ensures.next c.first-cursor.ensures.ordinal
