use Rattle.std.proofs.Common.{◌≡◌, ◌+◌, ◌*◌, ◌<◌, ◌≤◌, ◌-◌, ℕ, List, Some, length, get_or, refl, ap, sym, ◌∙◌, subst, arith}
use Rattle.past_model.specs.Past.{graph_of}
use Rattle.bpf_model.specs.Run.{number_for}
use Rattle.map_model.specs.EdgeMap.{input_record, reduction_of_numbers}
use Rattle.verifier.specs.Walks.{longest}
use Rattle.edge_fold.specs.Inputs.{lane_bytes}
use Rattle.edge_fold.specs.declared.budget.TheConstants.{EDGE_COST}
use Rattle.edge_fold.proofs.Numbers.{IsFolded, none_folded, one_folded, found}
use Rattle.edge_fold.proofs.Pieces.{some_folded, more_paid, more_spent}
use Rattle.edge_fold.proofs.some.fold_slice_some.Goals as goal
use Rattle.edge_fold.specs.Inputs.{inputs_of}

pub rounds-init : goal.rounds-init
rounds-init c = record {
  folded = none_folded c.args.reduction c.args.mapped.now.program.now (graph_of c.args.mapped.now.version.now) (inputs_of c.args.mapped.now) c.args.span.source c.args.span.place c.args.span.targets.now c.nothing-so_far.result c.nothing-so_far.ensures;
  paid = omega arith;
  spent = omega arith;
  memory = c.requires.memory;
  kept = c.fold_kept.ensures.kept;
}

pub lanes-preserved : goal.lanes-preserved
lanes-preserved c =
    let p = c.args.mapped.now.program.now in
    let g = graph_of c.args.mapped.now.version.now in
    let a = (inputs_of c.args.mapped.now) in
    let s = c.args.span in
    let lane = c.lanes.lane in
    let e = c.fill.new.edges in
    let below = c.lanes-test.true in
    let left : c.min-count.result ≤ length s.targets.now - c.rounds.at = omega (arith, c.min-count.ensures) in
    let there : c.rounds.at + lane < length s.targets.now = omega (arith, below, left) in
    let same : lane_bytes a e lane ≡ input_record g s.source (get_or s.targets.now (c.rounds.at + lane) 0) (s.place + (c.rounds.at + lane)) a =
    rw (c.fill.ensures.sources lane below, c.fill.ensures.targets lane below, c.fill.ensures.places lane below, c.fill.ensures.degrees lane below, c.requires.degree) refl in
    let number : number_for p (longest p) g (input_record g s.source (get_or s.targets.now (c.rounds.at + lane) 0) (s.place + (c.rounds.at + lane)) a) ≡ Some c.number_of_lane-number.result =
    subst (λ (bytes : List ℕ). number_for p (longest p) g bytes ≡ Some (get_or c.sweep.new.numbers lane 0)) same (c.sweep.ensures.numbers c.if-not-sweep.false lane (omega (arith, below, c.fill.ensures.count)))
    ∙ ap (λ n. Some n) (sym c.number_of_lane-number.ensures) in
    let more = one_folded c.args.reduction p g a s.source s.place s.targets.now (c.rounds.at + lane) c.lanes.so_far (get_or s.targets.now (c.rounds.at + lane) 0) c.number_of_lane-number.result c.combine-so_far.result
    c.lanes.invariant there refl number c.number_of_lane-number.type_inv c.combine-so_far.ensures in
    subst (λ (n : ℕ). IsFolded c.args.reduction p g a s.source s.place s.targets.now n c.combine-so_far.result) (omega arith) more

pub rounds-preserved : goal.rounds-preserved
rounds-preserved c =
    let p = c.args.mapped.now.program.now in
    record {
      folded = subst (λ (n : ℕ). IsFolded c.args.reduction p (graph_of c.args.mapped.now.version.now) (inputs_of c.args.mapped.now) c.args.span.source c.args.span.place c.args.span.targets.now (c.rounds.at + n) c.lanes.so_far) (omega (arith, c.lanes-test.false, c.lanes.auto)) c.lanes.invariant;
      paid = more_paid (longest p + EDGE_COST) c.rounds.at c.min-count.result c.args.memory.now.budget c.rounds.memory.budget c.cost_in_block-in-rounds.result c.pay-in-rounds.new.budget c.rounds.invariant.paid c.cost_in_block-in-rounds.ensures.most (omega (arith, c.pay-in-rounds.ensures));
      spent = more_spent c.rounds.at c.min-count.result c.args.memory.now.budget c.rounds.memory.budget c.cost_in_block-in-rounds.result c.pay-in-rounds.new.budget c.rounds.invariant.spent c.cost_in_block-in-rounds.ensures.least (omega (arith, c.pay-in-rounds.ensures));
      memory = c.rounds.invariant.memory;
      kept = c.rounds.invariant.kept;
    }

pub parts-preserved : goal.parts-preserved
parts-preserved c =
    let p = c.args.mapped.now.program.now in
    let g = graph_of c.args.mapped.now.version.now in
    let a = (inputs_of c.args.mapped.now) in
    let s = c.args.span in
    let n = c.edges_within-count.result in
    let fits : c.parts.at + n ≤ length s.targets.now = omega (arith, c.edges_within-count.ensures.few, c.parts.invariant.folded.within) in
    record {
      folded = some_folded c.args.reduction p g a s.source s.place s.targets.now c.parts.at n c.parts.so_far c.fold_part-folded.result.value c.combine-so_far-in-parts.result c.parts.invariant.folded fits
          (subst (λ (xs : List ℕ). c.fold_part-folded.result.value ≡ reduction_of_numbers c.args.reduction (found p g a s.source (s.place + c.parts.at) xs)) c.some_targets.ensures.same c.fold_part-folded.ensures.value)
          (subst (λ (xs : List ℕ). length (found p g a s.source (s.place + c.parts.at) xs) ≡ n) c.some_targets.ensures.same (c.fold_part-folded.ensures.count ∙ c.some_targets.ensures.long))
          c.combine-so_far-in-parts.ensures;
      paid = more_paid (longest p + EDGE_COST) c.parts.at n c.args.memory.now.budget c.parts.memory.budget c.fold_part-folded.result.cost c.pay-in-parts.new.budget c.parts.invariant.paid (subst (λ (k : ℕ). c.fold_part-folded.result.cost ≤ (longest p + EDGE_COST) * k) c.some_targets.ensures.long c.fold_part-folded.ensures.cost) (omega (arith, c.pay-in-parts.ensures));
      spent = more_spent c.parts.at n c.args.memory.now.budget c.parts.memory.budget c.fold_part-folded.result.cost c.pay-in-parts.new.budget c.parts.invariant.spent (subst (λ (k : ℕ). EDGE_COST * k ≤ c.fold_part-folded.result.cost) c.some_targets.ensures.long c.fold_part-folded.ensures.least) (omega (arith, c.pay-in-parts.ensures));
      memory = c.fold_part-folded.ensures.table;
      kept = c.parts.invariant.kept;
    }
