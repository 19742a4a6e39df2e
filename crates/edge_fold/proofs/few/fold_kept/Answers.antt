use Rattle.std.proofs.Common.{◌<◌, ◌^◌, refl, rules, arith}
use Rattle.past_model.specs.Past.{graph_of}
use Rattle.edge_fold.proofs.Numbers.{none_folded, one_folded, all_folded}
use Rattle.edge_fold.proofs.few.fold_kept.Goals as goal
use Rattle.edge_fold.specs.Inputs.{inputs_of}

pub targets-init : goal.targets-init
targets-init c = record {
  folded = none_folded c.args.reduction c.args.mapped.now.program.now (graph_of c.args.mapped.now.version.now) (inputs_of c.args.mapped.now) c.args.span.source c.args.span.place c.args.span.targets.now c.nothing-so_far.result c.nothing-so_far.ensures;
  kept = c.requires.kept;
}

pub targets-preserved : goal.targets-preserved
targets-preserved c =
    let p = c.args.mapped.now.program.now in
    let g = graph_of c.args.mapped.now.version.now in
    let a = (inputs_of c.args.mapped.now) in
    let s = c.args.span in
    let small : c.in-Some.number < 2 ^ 64 = search rules in
    let number = c.number_of.ensures.number p g a c.in-Some.number c.targets.invariant.kept c.in-Some.is c.requires.degree in
    record {
      folded = one_folded c.args.reduction p g a s.source s.place s.targets.now c.targets.at c.targets.so_far _ c.in-Some.number c.combine-so_far.result c.targets.invariant.folded c.targets-test.true refl number small c.combine-so_far.ensures;
      kept = c.number_of.ensures.same p g a c.targets.invariant.kept;
    }

pub returns-in_default-clause-kept : goal.returns-in_default-clause-kept
returns-in_default-clause-kept c = c.number_of.ensures.same c.args.mapped.now.program.now (graph_of c.args.mapped.now.version.now) (inputs_of c.args.mapped.now) c.targets.invariant.kept

pub returns-clause-value : goal.returns-clause-value
returns-clause-value c =
    let s = c.args.span in
    (all_folded c.args.reduction c.args.mapped.now.program.now (graph_of c.args.mapped.now.version.now) (inputs_of c.args.mapped.now) s.source s.place s.targets.now c.targets.at c.targets.so_far c.targets.invariant.folded (omega (arith, c.targets-test.false))).0

pub returns-clause-count : goal.returns-clause-count
returns-clause-count c =
    let s = c.args.span in
    (all_folded c.args.reduction c.args.mapped.now.program.now (graph_of c.args.mapped.now.version.now) (inputs_of c.args.mapped.now) s.source s.place s.targets.now c.targets.at c.targets.so_far c.targets.invariant.folded (omega (arith, c.targets-test.false))).1
