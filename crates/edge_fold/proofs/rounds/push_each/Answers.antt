use Rattle.std.proofs.Common.{◌≡◌, Bool, true, false, not, take, refl, ap, ◌∙◌, rules, arith}
use Rattle.std.proofs.lemmas.List.{take_all}
use Rattle.past_model.specs.Past.{graph_of}
use Rattle.map_model.specs.Pushes.{pushed}
use Rattle.edge_fold.specs.Inputs.{inputs_of}
use Rattle.edge_fold.proofs.Numbers.{found, none_folded, all_folded}
use Rattle.edge_fold.proofs.Pushed.{none_carried, one_carried}
use Rattle.edge_fold.proofs.rounds.push_each.Goals as goal

pub targets-init : goal.targets-init
targets-init c =
    let p = c.args.mapped.now.program.now in
    let g = graph_of c.args.mapped.now.version.now in
    let a = inputs_of c.args.mapped.now in
    let s = c.args.span in
    record {
      carried = none_carried c.args.reduction p g a s.source s.place s.targets.now c.nothing-value.result c.args.values.now
          (none_folded c.args.reduction p g a s.source s.place s.targets.now c.nothing-value.result c.nothing-value.ensures);
      long = refl;
      table = c.requires.table;
      begun = λ is. absurd cc;
    }

kept : (writes : Bool) → not writes ≡ true → writes ≡ false
kept true is = absurd cc
kept false is = refl

pub targets-preserved : goal.targets-preserved
targets-preserved c =
    let p = c.args.mapped.now.program.now in
    let g = graph_of c.args.mapped.now.version.now in
    let a = inputs_of c.args.mapped.now in
    let s = c.args.span in
    let ended = c.run_edge_counted-ended in
    record {
      carried = one_carried c.args.reduction p g a s.source s.place s.targets.now c.targets.at c.targets.value _ ended.result.number c.combine-value.result c.args.values.now c.targets.values c.push_one.new.values
          c.targets.invariant.carried c.targets-test.true refl ended.ensures.number (search rules) c.combine-value.ensures c.push_one.ensures.values;
      long = c.push_one.ensures.long ∙ c.targets.invariant.long;
      table = ended.ensures.table;
      begun = λ is. record { edge = _; same_source = refl; same_degree = refl; record_is = ended.ensures.kept (c.writes-keeps.ensures.keeps (kept _ is)) };
    }

pub returns-clause-values : goal.returns-clause-values
returns-clause-values c =
    let p = c.args.mapped.now.program.now in
    let g = graph_of c.args.mapped.now.version.now in
    let a = inputs_of c.args.mapped.now in
    let s = c.args.span in
    let all : take c.targets.at s.targets.now ≡ s.targets.now = take_all c.targets.at s.targets.now (omega (arith, c.targets-test.false)) in
    c.targets.invariant.carried.pushed_are
    ∙ ap (λ ts. pushed c.args.reduction ts (found p g a s.source s.place ts) c.args.values.now) all

pub returns-clause-value : goal.returns-clause-value
returns-clause-value c =
    (all_folded c.args.reduction c.args.mapped.now.program.now (graph_of c.args.mapped.now.version.now) (inputs_of c.args.mapped.now) c.args.span.source c.args.span.place c.args.span.targets.now c.targets.at c.targets.value c.targets.invariant.carried.folded (omega (arith, c.targets-test.false))).0

pub returns-clause-count : goal.returns-clause-count
returns-clause-count c =
    (all_folded c.args.reduction c.args.mapped.now.program.now (graph_of c.args.mapped.now.version.now) (inputs_of c.args.mapped.now) c.args.span.source c.args.span.place c.args.span.targets.now c.targets.at c.targets.value c.targets.invariant.carried.folded (omega (arith, c.targets-test.false))).1
