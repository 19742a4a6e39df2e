use Rattle.std.proofs.Common.{◌≡◌, ◌+◌, ◌-◌, ◌*◌, ◌++◌, List, ℕ, length, take, drop, ap, ◌∙◌, subst, length-drop, arith}
use Rattle.past_model.specs.Past.{graph_of}
use Rattle.verifier.specs.Walks.{longest}
use Rattle.edge_fold.specs.declared.budget.TheConstants.{EDGE_COST}
use Rattle.edge_fold.proofs.Numbers.{found}
use Rattle.edge_fold.proofs.Pieces.{more_paid, more_spent}
use Rattle.edge_fold.proofs.Filled.{none_filled, rest_filled}
use Rattle.edge_fold.proofs.numbers_some.number_span_some.Goals as goal
use Rattle.edge_fold.specs.Inputs.{inputs_of}

pub rounds-init : goal.rounds-init
rounds-init c = record {
  filled = none_filled c.args.mapped.now.program.now (graph_of c.args.mapped.now.version.now) (inputs_of c.args.mapped.now) c.args.span.source c.args.span.place c.args.span.targets.now c.args.numbers.now;
  paid = omega arith;
  spent = omega arith;
  memory = c.requires.memory;
}

pub rounds-preserved : goal.rounds-preserved
rounds-preserved c =
    let p = c.args.mapped.now.program.now in
    let g = graph_of c.args.mapped.now.version.now in
    let a = (inputs_of c.args.mapped.now) in
    let s = c.args.span in
    let at = c.rounds.at in
    let n = c.number_round-at.result in
    let rest = c.targets_from.result.now in
    let old = take (length c.rounds.numbers - at) (drop at c.rounds.numbers) in
    let done = c.rounds.invariant.filled in
    let long = ap length c.targets_from.ensures ∙ length-drop at s.targets.now in
    record {
      filled = rest_filled p g a s.source s.place s.targets.now c.args.numbers.now c.rounds.numbers c.number_round-at.new.numbers at n done
          (omega (arith, c.number_round-at.ensures.few, long, c.requires.long)) (omega (arith, c.number_round-at.ensures.few, long, done.within)) c.number_round-at.auto.numbers
          (subst (λ (xs : List ℕ). c.number_round-at.new.numbers ≡ found p g a s.source (s.place + at) (take n xs) ++ drop n old) c.targets_from.ensures c.number_round-at.ensures.numbers);
      paid = more_paid (longest p + EDGE_COST) at n c.args.memory.now.budget c.rounds.memory.budget ((longest p + EDGE_COST) * n) c.number_round-at.new.memory.budget c.rounds.invariant.paid (omega arith) c.number_round-at.ensures.cost;
      spent = more_spent at n c.args.memory.now.budget c.rounds.memory.budget (EDGE_COST * n) c.number_round-at.new.memory.budget c.rounds.invariant.spent (omega arith) c.number_round-at.ensures.falls;
      memory = c.number_round-at.ensures.memory;
    }
