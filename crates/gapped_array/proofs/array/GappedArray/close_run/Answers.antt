use Rattle.std.proofs.Common.{ap, ◌∙◌, arith, slice_set, None}
use Rattle.gapped_array.specs.Runs.{live}
use Rattle.gapped_array.proofs.Layouts.{open_listed, closed}
use Rattle.gapped_array.proofs.array.GappedArray.close_run.Goals as goal

pub pack-self-inside-requires : goal.pack-self-inside-requires
pack-self-inside-requires c =
    (closed c.self.inside.cells.items c.self.inside.segments c.self.inside.runs.items c.args.vertex c.self.invariant.layout (open_listed c.self.inside.cells.items c.self.inside.runs.items c.args.self.now c.args.vertex c.self.view_is c.requires)).0

pub invariant_of-self-else-surplus-gt-VERTICES : goal.invariant_of-self-else-surplus-gt-VERTICES
invariant_of-self-else-surplus-gt-VERTICES c = record {
  layout = (closed c.self.inside.cells.items c.self.inside.segments c.self.inside.runs.items c.args.vertex c.self.invariant.layout (open_listed c.self.inside.cells.items c.self.inside.runs.items c.args.self.now c.args.vertex c.self.view_is c.requires)).0;
  space = omega (arith, c.if-surplus-gt-VERTICES.false, c.surplus.ensures, ap live c.deref.ensures.value);
}

pub returns-then-surplus-gt-VERTICES : goal.returns-then-surplus-gt-VERTICES
returns-then-surplus-gt-VERTICES c =
    c.pack-self-inside.ensures.lists
    ∙ (closed c.self.inside.cells.items c.self.inside.segments c.self.inside.runs.items c.args.vertex c.self.invariant.layout (open_listed c.self.inside.cells.items c.self.inside.runs.items c.args.self.now c.args.vertex c.self.view_is c.requires)).1
    ∙ ap (λ l. slice_set l c.args.vertex None) c.self.view_is

pub returns-else-surplus-gt-VERTICES : goal.returns-else-surplus-gt-VERTICES
returns-else-surplus-gt-VERTICES c =
    (closed c.self.inside.cells.items c.self.inside.segments c.self.inside.runs.items c.args.vertex c.self.invariant.layout (open_listed c.self.inside.cells.items c.self.inside.runs.items c.args.self.now c.args.vertex c.self.view_is c.requires)).1
    ∙ ap (λ l. slice_set l c.args.vertex None) c.self.view_is
