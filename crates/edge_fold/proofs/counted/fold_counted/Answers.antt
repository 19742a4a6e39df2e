use Rattle.std.proofs.Common.{◌≡◌, Bool, true, false, not, refl, rules, arith}
use Rattle.past_model.specs.Past.{graph_of}
use Rattle.edge_fold.proofs.Numbers.{none_folded, one_folded, all_folded}
use Rattle.edge_fold.proofs.counted.fold_counted.Goals as goal
use Rattle.edge_fold.specs.Inputs.{inputs_of}

pub targets-init : goal.targets-init
targets-init c = record {
  folded = none_folded c.args.reduction c.args.mapped.now.program.now (graph_of c.args.mapped.now.version.now) (inputs_of c.args.mapped.now) c.args.span.source c.args.span.place c.args.span.targets.now c.nothing-value.result c.nothing-value.ensures;
  table = c.requires.table;
  begun = λ is. absurd cc;
}

kept : (writes : Bool) → not writes ≡ true → writes ≡ false
kept true is = absurd cc
kept false is = refl

pub targets-preserved : goal.targets-preserved
targets-preserved c =
    record {
      folded = one_folded c.args.reduction c.args.mapped.now.program.now (graph_of c.args.mapped.now.version.now) (inputs_of c.args.mapped.now) c.args.span.source c.args.span.place c.args.span.targets.now c.targets.at c.targets.value _ c.run_edge_counted-ended.result.number c.combine-value.result c.targets.invariant.folded c.targets-test.true refl c.run_edge_counted-ended.ensures.number (search rules) c.combine-value.ensures;
      table = c.run_edge_counted-ended.ensures.table;
      begun = λ is. record { edge = _; same_source = refl; same_degree = refl; record_is = c.run_edge_counted-ended.ensures.kept (c.writes-keeps.ensures.keeps (kept _ is)) };
    }

pub returns-clause-value : goal.returns-clause-value
returns-clause-value c =
    (all_folded c.args.reduction c.args.mapped.now.program.now (graph_of c.args.mapped.now.version.now) (inputs_of c.args.mapped.now) c.args.span.source c.args.span.place c.args.span.targets.now c.targets.at c.targets.value c.targets.invariant.folded (omega (arith, c.targets-test.false))).0

pub returns-clause-count : goal.returns-clause-count
returns-clause-count c =
    (all_folded c.args.reduction c.args.mapped.now.program.now (graph_of c.args.mapped.now.version.now) (inputs_of c.args.mapped.now) c.args.span.source c.args.span.place c.args.span.targets.now c.targets.at c.targets.value c.targets.invariant.folded (omega (arith, c.targets-test.false))).1
