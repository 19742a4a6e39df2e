use Rattle.gapped_array.proofs.Layouts.{vertex_listed, opened}
use Rattle.gapped_array.proofs.array.GappedArray.open_run.Goals as goal

pub invariant_of-self : goal.invariant_of-self
invariant_of-self c =
    (opened c.self.inside.cells.items c.self.inside.segments c.self.inside.runs.items c.args.self.now c.args.vertex c.self.invariant c.self.view_is (vertex_listed c.self.inside.cells.items c.self.inside.runs.items c.args.self.now c.args.vertex c.self.view_is c.requires.inside) c.requires.closed).0

pub returns : goal.returns
returns c =
    (opened c.self.inside.cells.items c.self.inside.segments c.self.inside.runs.items c.args.self.now c.args.vertex c.self.invariant c.self.view_is (vertex_listed c.self.inside.cells.items c.self.inside.runs.items c.args.self.now c.args.vertex c.self.view_is c.requires.inside) c.requires.closed).1
