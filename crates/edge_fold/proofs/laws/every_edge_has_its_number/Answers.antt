use Rattle.std.proofs.Common.{List, ℕ, arith}
use Rattle.std.specs.Borrow.{Bor}
use Rattle.std.proofs.lemmas.List.{length-map}
use Rattle.edge_fold.specs.Inputs.{inputs_of}
use Rattle.edge_fold.proofs.AllNumbered.{every_edge}
use Rattle.edge_fold.proofs.laws.every_edge_has_its_number.Goals as goal

pub returns : goal.returns
returns c = every_edge c.args.mapped.now.program.now _ (inputs_of c.args.mapped.now) c.is_view.ensures c.image-image.ensures.exits (omega (arith, c.args.mapped.now.fits, length-map c.args.mapped.now.columns.now (λ (column : Bor (List ℕ)). column.now))) c.are_bytes.ensures
