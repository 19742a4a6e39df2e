use Rattle.std.proofs.Common.{◌≡◌, Bool, true, false, not, refl, arith}
use Rattle.past_model.specs.Past.{graph_of}
use Rattle.edge_fold.proofs.Numbers.{none_folded, one_folded, all_folded}
use Rattle.edge_fold.proofs.running.fold_span.Goals as goal
use Rattle.edge_fold.specs.Inputs.{inputs_of}

pub targets-init : goal.targets-init
targets-init c = record {
  folded = none_folded c.args.reduction c.args.mapped.now.program.now (graph_of c.args.mapped.now.version.now) (inputs_of c.args.mapped.now) c.args.span.source c.args.span.place c.args.span.targets.now c.nothing-so_far.result c.nothing-so_far.ensures;
  table = c.requires.table;
  begun = λ is. absurd cc;
}

kept : (writes : Bool) → not writes ≡ true → writes ≡ false
kept true is = absurd cc
kept false is = refl

pub targets-preserved : goal.targets-preserved
targets-preserved c =
    record {
      folded = one_folded c.args.reduction c.args.mapped.now.program.now (graph_of c.args.mapped.now.version.now) (inputs_of c.args.mapped.now) c.args.span.source c.args.span.place c.args.span.targets.now c.targets.at c.targets.so_far _ c.run_edge-number.result c.combine-so_far.result c.targets.invariant.folded c.targets-test.true refl c.run_edge-number.ensures.number c.run_edge-number.type_inv c.combine-so_far.ensures;
      table = c.run_edge-number.ensures.table;
      begun = λ is. record { edge = _; same_source = refl; same_degree = refl; record_is = c.run_edge-number.ensures.kept (c.writes-keeps.ensures.keeps (kept _ is)) };
    }

pub returns-clause-value : goal.returns-clause-value
returns-clause-value c =
    (all_folded c.args.reduction c.args.mapped.now.program.now (graph_of c.args.mapped.now.version.now) (inputs_of c.args.mapped.now) c.args.span.source c.args.span.place c.args.span.targets.now c.targets.at c.targets.so_far c.targets.invariant.folded (omega (arith, c.targets-test.false))).0

pub returns-clause-count : goal.returns-clause-count
returns-clause-count c =
    (all_folded c.args.reduction c.args.mapped.now.program.now (graph_of c.args.mapped.now.version.now) (inputs_of c.args.mapped.now) c.args.span.source c.args.span.place c.args.span.targets.now c.targets.at c.targets.so_far c.targets.invariant.folded (omega (arith, c.targets-test.false))).1
