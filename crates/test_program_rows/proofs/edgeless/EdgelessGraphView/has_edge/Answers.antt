use Rattle.std.proofs.Common.{◌≡◌, Bool, true, false, nat_lt, refl}
use Rattle.std.specs.Prelude.{◌&&◌}
use Rattle.test_program_rows.proofs.edgeless.EdgelessGraphView.has_edge.Goals as goal

never : (a b : Bool) → false ≡ a && (b && false)
never true true = refl
never true false = refl
never false b = refl

pub returns : goal.returns
returns c = never (nat_lt c.args._source c.args.self.now.vertices) (nat_lt c.args._target c.args.self.now.vertices)
