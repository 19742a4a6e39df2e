use Rattle.std.proofs.Common.{◌+◌, ap, sym, refl}
use Rattle.explanation.proofs.Starts.{at_behind, at_past}
use Rattle.explanation.proofs.cursor.Cursor.past.Goals as goal

pub returns-then-self-pc : goal.returns-then-self-pc
returns-then-self-pc c = at_past c.args.image.now c.args.pc c.args.self c.requires.at (λ same. c.if-self-pc.true (sym same))

pub returns : goal.returns
returns c =
    at_behind c.args.image.now c.args.pc c.args.self _ c.requires.at (sym c.if-self-pc.false) (ap (λ n. c.args.pc + n) c.units_at.ensures.exact) refl c.units_at.ensures.near
