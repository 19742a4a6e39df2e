use Rattle.std.proofs.Common.{arith}
use Rattle.edge_fold.proofs.AllNumbered.{every_edge_listed}
use Rattle.edge_fold.proofs.laws.every_edge_is_listed.Goals as goal

pub returns : goal.returns
returns c = every_edge_listed c.args.program.now _ c.args.argument.now c.is_view.ensures c.image-image.ensures.exits (omega (arith, c.requires)) c.are_bytes.ensures
