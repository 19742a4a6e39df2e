use Rattle.std.proofs.Common.{rules}
use Rattle.std.proofs.lemmas.Slice.Eq.{slice_eq-Decides}
use Rattle.session.proofs.handles.are_same.Goals as goal

pub returns : goal.returns
returns c test = (slice_eq-Decides (λ a b. search rules) c.args.a.now c.args.b.now c.eq.result c.eq.ensures).0 test
