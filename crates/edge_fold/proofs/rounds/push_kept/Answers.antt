use Rattle.std.proofs.Common.{◌<◌, ◌^◌, refl, ◌∙◌, rules}
use Rattle.past_model.specs.Past.{graph_of}
use Rattle.edge_fold.specs.Inputs.{inputs_of}
use Rattle.edge_fold.proofs.Numbers.{none_folded}
use Rattle.edge_fold.proofs.Pushed.{none_carried, one_carried}
use Rattle.edge_fold.proofs.rounds.push_kept.Goals as goal

pub targets-init : goal.targets-init
targets-init c =
    let p = c.args.mapped.now.program.now in
    let g = graph_of c.args.mapped.now.version.now in
    let a = inputs_of c.args.mapped.now in
    let s = c.args.span in
    record {
      carried = none_carried c.args.reduction p g a s.source s.place s.targets.now c.nothing-so_far.result c.args.values.now
          (none_folded c.args.reduction p g a s.source s.place s.targets.now c.nothing-so_far.result c.nothing-so_far.ensures);
      long = refl;
      kept = c.requires.kept;
    }

pub targets-preserved : goal.targets-preserved
targets-preserved c =
    let p = c.args.mapped.now.program.now in
    let g = graph_of c.args.mapped.now.version.now in
    let a = inputs_of c.args.mapped.now in
    let s = c.args.span in
    let small : c.in-Some.number < 2 ^ 64 = search rules in
    let number = c.number_of.ensures.number p g a c.in-Some.number c.targets.invariant.kept c.in-Some.is c.requires.degree in
    record {
      carried = one_carried c.args.reduction p g a s.source s.place s.targets.now c.targets.at c.targets.so_far _ c.in-Some.number c.combine-so_far.result c.args.values.now c.targets.values c.push_one.new.values
          c.targets.invariant.carried c.targets-test.true refl number small c.combine-so_far.ensures c.push_one.ensures.values;
      long = c.push_one.ensures.long ∙ c.targets.invariant.long;
      kept = c.number_of.ensures.same p g a c.targets.invariant.kept;
    }

pub returns-in_default-clause-kept : goal.returns-in_default-clause-kept
returns-in_default-clause-kept c =
    c.number_of.ensures.same c.args.mapped.now.program.now (graph_of c.args.mapped.now.version.now) (inputs_of c.args.mapped.now) c.targets.invariant.kept
