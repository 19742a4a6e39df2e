use Rattle.std.proofs.Common.{◌≡◌, Bool, true, false, not, refl, arith}
use Rattle.past_model.specs.Past.{graph_of}
use Rattle.edge_fold.proofs.Written.{one_written, all_written}
use Rattle.edge_fold.proofs.counted.number_counted.Goals as goal
use Rattle.edge_fold.specs.Inputs.{inputs_of}

pub targets-init : goal.targets-init
targets-init c = record {
  written = record { within = omega arith; long = c.requires.long; written = refl };
  table = c.requires.table;
  begun = λ is. absurd cc;
}

kept : (writes : Bool) → not writes ≡ true → writes ≡ false
kept true is = absurd cc
kept false is = refl

pub targets-preserved : goal.targets-preserved
targets-preserved c =
    let s = c.args.span in
    record {
      written = one_written c.args.mapped.now.program.now (graph_of c.args.mapped.now.version.now) (inputs_of c.args.mapped.now) s.source s.place s.targets.now c.targets.numbers c.targets.at c.run_edge_counted-ended.result.number c.targets.invariant.written c.targets-test.true c.run_edge_counted-ended.ensures.number;
      table = c.run_edge_counted-ended.ensures.table;
      begun = λ is. record { edge = _; same_source = refl; same_degree = refl; record_is = c.run_edge_counted-ended.ensures.kept (c.writes-keeps.ensures.keeps (kept _ is)) };
    }

pub returns-clause-numbers : goal.returns-clause-numbers
returns-clause-numbers c =
    let s = c.args.span in
    all_written c.args.mapped.now.program.now (graph_of c.args.mapped.now.version.now) (inputs_of c.args.mapped.now) s.source s.place s.targets.now c.targets.numbers c.targets.at c.targets.invariant.written (omega (arith, c.targets-test.false))
